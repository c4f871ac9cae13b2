use Rattle.serving_law.proofs.Histories.{registered_stays}
use Rattle.serving_law.proofs.law.registered_stays.Goals as goal

pub returns : goal.returns
returns g c = λ members. registered_stays _ members g.met.C.Cell.only_now
