use Rattle.register_law.proofs.Cells.{carried_reports_agree}
use Rattle.register_law.proofs.law.carried_reports_agree.Goals as goal

pub returns : goal.returns
returns g c = λ members. carried_reports_agree _ members g.met.C.Cell.only_now
