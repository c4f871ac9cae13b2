use Rattle.reach_law.proofs.Reaching.{chosen_within_reach}
use Rattle.reach_law.proofs.law.what_is_chosen_is_within_reach.Goals as goal

pub returns : goal.returns
returns c = chosen_within_reach
