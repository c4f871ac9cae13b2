use Rattle.register_law.proofs.Cells.{records_stay}
use Rattle.register_law.proofs.law.records_stay.Goals as goal

pub returns : goal.returns
returns g c = λ members. records_stay _ members g.met.C.Cell.only_now
