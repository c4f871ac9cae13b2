use Rattle.register_law.proofs.Cells.{carried_known_stays}
use Rattle.register_law.proofs.law.carried_known_stays.Goals as goal

pub returns : goal.returns
returns g c = λ members. carried_known_stays _ members g.met.C.Cell.only_now
