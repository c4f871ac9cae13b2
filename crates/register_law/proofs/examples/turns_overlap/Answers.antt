use Rattle.register_law.proofs.Overlapped.{turns_overlap}
use Rattle.register_law.proofs.examples.turns_overlap.Goals as goal

pub returns : goal.returns
returns c = turns_overlap
