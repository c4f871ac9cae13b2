use Rattle.batch_law.proofs.UnseenTurns.{unsynced_batches}
use Rattle.batch_law.proofs.law.unsynced_batches_are_turns.Goals as goal

pub returns : goal.returns
returns c = unsynced_batches
