use Rattle.serving_law.proofs.Failed.{fails_in_a_deposit}
use Rattle.serving_law.proofs.examples.fails_in_a_deposit.Goals as goal

pub returns : goal.returns
returns c = fails_in_a_deposit
