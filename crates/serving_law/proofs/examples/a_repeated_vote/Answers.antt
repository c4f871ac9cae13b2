use Rattle.serving_law.proofs.Agreed.{a_repeated_vote}
use Rattle.serving_law.proofs.examples.a_repeated_vote.Goals as goal

pub returns : goal.returns
returns c = a_repeated_vote
