use Rattle.udp_site.proofs.Handed.{grows_by_no_posts}
use Rattle.udp_site.proofs.deposits.reply_to_deposit.Goals as goal

pub returns-in_default-clause-handed : goal.returns-in_default-clause-handed
returns-in_default-clause-handed g c = rw c.in_default.is (grows_by_no_posts _)
