use Rattle.schedule.proofs.WeightLemmas.{AreSoFar}
use Rattle.schedule.proofs.parse_federation.parse_weights.Given as goal

-- the words so far name the weights so far
abbrev pub invariant-loop-place : goal.invariant-loop-place
invariant-loop-place l = AreSoFar l.words l.place l.weights
