use Rattle.batch_law.proofs.WholeBatches.{whole_batches}
use Rattle.batch_law.proofs.law.batches_are_turns.Goals as goal

pub returns : goal.returns
returns c = whole_batches
