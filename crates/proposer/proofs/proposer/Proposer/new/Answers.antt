use Rattle.proposer.proofs.Stands.{nothing_known}
use Rattle.proposer.proofs.proposer.Proposer.new.Goals as goal

pub returns-clause-stands : goal.returns-clause-stands
returns-clause-stands g c = nothing_known c.new.result c.new.ensures
