use Rattle.world_law.proofs.Promised.{bags_were_deposited}
use Rattle.world_law.proofs.law.bags_were_deposited.Goals as goal

pub returns : goal.returns
returns c = bags_were_deposited
