use Rattle.world_law.proofs.Induction.{later_carried}
use Rattle.world_law.proofs.Runs.{run_kept}
use Rattle.world_law.proofs.law.chosen_stays.Goals as goal

pub returns : goal.returns
returns c = λ q events laws slot chosen later by s lower.
    later_carried q _ slot chosen later laws (run_kept q laws events) by s lower
