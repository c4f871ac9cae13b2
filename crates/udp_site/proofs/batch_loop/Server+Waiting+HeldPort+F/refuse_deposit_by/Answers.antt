use Rattle.udp_site.proofs.Handed.{grows_by_no_posts}
use Rattle.udp_site.proofs.batch_loop.Server+Waiting+HeldPort+F.refuse_deposit_by.Goals as goal

pub returns-in-Idle-clause-handed : goal.returns-in-Idle-clause-handed
returns-in-Idle-clause-handed g c = rw c.in-Idle.is (grows_by_no_posts _)
