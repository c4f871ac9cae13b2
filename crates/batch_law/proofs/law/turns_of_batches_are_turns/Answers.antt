use Rattle.batch_law.proofs.DiskTurns.{turn_on}
use Rattle.batch_law.proofs.law.turns_of_batches_are_turns.Goals as goal

pub returns : goal.returns
returns c = turn_on
