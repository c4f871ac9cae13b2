use Rattle.serving_law.proofs.Histories.{turns_may_happen}
use Rattle.serving_law.proofs.law.turns_may_happen.Goals as goal

pub returns : goal.returns
returns g c = λ members. turns_may_happen _ members g.met.C.Cell.only_now
