use Rattle.serving_law.proofs.Histories.{reports_were_deposited}
use Rattle.serving_law.proofs.law.reports_were_deposited.Goals as goal

pub returns : goal.returns
returns g c = λ members. reports_were_deposited _ members g.met.C.Cell.only_now
