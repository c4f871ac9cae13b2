use Rattle.register_law.proofs.Cells.{carried_reports_were_deposited}
use Rattle.register_law.proofs.law.carried_reports_were_deposited.Goals as goal

pub returns : goal.returns
returns g c = λ members. carried_reports_were_deposited _ members g.met.C.Cell.only_now
