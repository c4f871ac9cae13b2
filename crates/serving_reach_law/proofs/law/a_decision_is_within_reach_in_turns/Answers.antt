use Rattle.serving_reach_law.proofs.Reaching.{a_decision}
use Rattle.serving_reach_law.proofs.law.a_decision_is_within_reach_in_turns.Goals as goal

pub returns : goal.returns
returns g c = λ members. a_decision _ members g.met.C.Cell.only_now
