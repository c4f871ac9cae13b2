use Rattle.sealing_law.proofs.Forged.{a_sealed_vote_counts}
use Rattle.sealing_law.proofs.examples.a_sealed_vote_counts.Goals as goal

pub returns : goal.returns
returns c = a_sealed_vote_counts
