use Rattle.std.proofs.Common.{inl, inr}
use Rattle.world_law.proofs.Runs.{run_kept}
use Rattle.world_law.proofs.law.known_was_chosen.Goals as goal

pub returns : goal.returns
returns c = λ q events laws n slot bag h. elim h [
  | inl k ↦ (run_kept q laws events).records n slot _ k
  | inr s ↦ (run_kept q laws events).sent _ s.is_sent
]
