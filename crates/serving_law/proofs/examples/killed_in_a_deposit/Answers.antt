use Rattle.serving_law.proofs.Kills.{killed_in_a_deposit}
use Rattle.serving_law.proofs.examples.killed_in_a_deposit.Goals as goal

pub returns : goal.returns
returns c = killed_in_a_deposit
