use Rattle.serving_reach_law.proofs.Reaching.{what_is_chosen}
use Rattle.serving_reach_law.proofs.law.what_is_chosen_is_within_reach_in_turns.Goals as goal

pub returns : goal.returns
returns g c = λ members. what_is_chosen _ members g.met.C.Cell.only_now
