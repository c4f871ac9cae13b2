use Rattle.std.proofs.Common.{refl}
use Rattle.udp_site.specs.Turns.{drops, number}
use Rattle.udp_site.proofs.Handed.{grows_by_no_posts}
use Rattle.udp_site.proofs.Said.{handed_and_said}
use Rattle.udp_site.proofs.Same.{same_number}
use Rattle.udp_site.proofs.server.Server.drop_datagram.Goals as goal

pub returns-clause-comes : goal.returns-clause-comes
returns-clause-comes g c old there serves =
    handed_and_said (drops old) (refl, refl) there serves _ _ (grows_by_no_posts _) _ _ _
    (rw (← same_number old there c.number-2.ensures.value c.number.ensures)
    c.push_dropped.ensures)
