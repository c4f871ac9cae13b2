use Rattle.register_law.proofs.Cells.{carried_registered_stays}
use Rattle.register_law.proofs.law.carried_registered_stays.Goals as goal

pub returns : goal.returns
returns g c = λ members. carried_registered_stays _ members g.met.C.Cell.only_now
