use Rattle.serving_law.proofs.Histories.{known_stays}
use Rattle.serving_law.proofs.law.known_stays.Goals as goal

pub returns : goal.returns
returns g c = λ members. known_stays _ members g.met.C.Cell.only_now
