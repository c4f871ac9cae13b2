use Rattle.register_law.proofs.Runs.{chosen_remains}
use Rattle.register_law.proofs.law.chosen_remains.Goals as goal

pub returns : goal.returns
returns c = chosen_remains
