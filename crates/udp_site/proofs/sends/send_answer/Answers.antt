use Rattle.udp_site.proofs.Handed.{grows_by_no_posts}
use Rattle.udp_site.proofs.sends.send_answer.Goals as goal

pub returns-in-Err-clause-hands : goal.returns-in-Err-clause-hands
returns-in-Err-clause-hands g c = rw c.in-Err.is (grows_by_no_posts _)
