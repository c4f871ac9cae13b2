use Rattle.serving_law.proofs.Agreed.{killed_in_a_vote}
use Rattle.serving_law.proofs.examples.killed_in_a_vote.Goals as goal

pub returns : goal.returns
returns c = killed_in_a_vote
