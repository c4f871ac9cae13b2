use Rattle.serving_law.proofs.Histories.{reports_agree}
use Rattle.serving_law.proofs.law.reports_agree.Goals as goal

pub returns : goal.returns
returns g c = λ members. reports_agree _ members g.met.C.Cell.only_now
