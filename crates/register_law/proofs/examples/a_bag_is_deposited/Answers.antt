use Rattle.register_law.proofs.AskedDeposits.{a_bag_is_deposited}
use Rattle.register_law.proofs.examples.a_bag_is_deposited.Goals as goal

pub returns : goal.returns
returns c = a_bag_is_deposited
