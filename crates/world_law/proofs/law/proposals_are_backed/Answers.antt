use Rattle.world_law.proofs.Induction.{accept_says}
use Rattle.world_law.proofs.Runs.{run_kept}
use Rattle.world_law.proofs.law.proposals_are_backed.Goals as goal

pub returns : goal.returns
returns c = λ q events laws slot vote s. (accept_says (run_kept q laws events) s).backed
