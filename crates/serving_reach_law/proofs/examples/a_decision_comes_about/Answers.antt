use Rattle.serving_reach_law.proofs.OverTapes.{a_decision_comes_about}
use Rattle.serving_reach_law.proofs.examples.a_decision_comes_about.Goals as goal

pub returns : goal.returns
returns c = a_decision_comes_about
