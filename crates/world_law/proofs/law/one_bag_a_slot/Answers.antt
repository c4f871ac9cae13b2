use Rattle.world_law.proofs.Induction.{chosen_once}
use Rattle.world_law.proofs.Runs.{run_kept}
use Rattle.world_law.proofs.law.one_bag_a_slot.Goals as goal

pub returns : goal.returns
returns c = λ q events laws. chosen_once q _ laws (run_kept q laws events)
