use Rattle.addresses.proofs.TextLemmas.{one_address, reads}
use Rattle.addresses.proofs.law.addresses_law.Goals as goal

pub returns-clause-read : goal.returns-clause-read
returns-clause-read c = reads

pub returns-clause-one : goal.returns-clause-one
returns-clause-one c = one_address
