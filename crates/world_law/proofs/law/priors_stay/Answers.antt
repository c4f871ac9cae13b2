use Rattle.world_law.proofs.Induction.{promise_says}
use Rattle.world_law.proofs.Runs.{run_kept}
use Rattle.world_law.proofs.law.priors_stay.Goals as goal

pub returns : goal.returns
returns c = λ q events laws n slot b prior s. (promise_says (run_kept q laws events) s).prior_is
