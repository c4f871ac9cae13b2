use Rattle.process_law.proofs.Deposited.{a_process_takes_a_deposit}
use Rattle.process_law.proofs.examples.a_process_takes_a_deposit.Goals as goal

pub returns : goal.returns
returns c = a_process_takes_a_deposit
