use Rattle.serving_reach_law.proofs.OverTapes.{tapes_answer}
use Rattle.serving_reach_law.proofs.examples.tapes_answer.Goals as goal

pub returns : goal.returns
returns c = tapes_answer
