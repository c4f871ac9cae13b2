use Rattle.register_law.proofs.Cells.{carried_agree_with_the_run}
use Rattle.register_law.proofs.law.carried_agree_with_the_run.Goals as goal

pub returns : goal.returns
returns g c = λ members. carried_agree_with_the_run _ members g.met.C.Cell.only_now
