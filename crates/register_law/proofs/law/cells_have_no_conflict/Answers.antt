use Rattle.register_law.proofs.Cells.{cells_have_no_conflict}
use Rattle.register_law.proofs.law.cells_have_no_conflict.Goals as goal

pub returns : goal.returns
returns g c = λ members. cells_have_no_conflict _ members g.met.C.Cell.only_now
