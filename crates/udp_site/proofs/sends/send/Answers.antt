use Rattle.udp_site.specs.Traffic.{all_handed}
use Rattle.udp_site.proofs.sends.send.Goals as goal

pub returns-in-Ok-clause-hands : goal.returns-in-Ok-clause-hands
unfolding all_handed
returns-in-Ok-clause-hands g c = c.in-Ok.ensures.handed

-- lost, and yet handed out
pub returns-in-Err-Device-clause-hands : goal.returns-in-Err-Device-clause-hands
unfolding all_handed
returns-in-Err-Device-clause-hands g c =
    rw c.in-Err-Device.field-0-is at c.in-Err-Device.ensures.handed
