use Rattle.ledger.proofs.Openings.{opens, damaged}
use Rattle.ledger.proofs.law.contents_are_what_opening_gives.Goals as goal

pub returns-clause-records : goal.returns-clause-records
returns-clause-records c = λ bytes contents is whole. opens bytes contents is whole

pub returns-clause-damage : goal.returns-clause-damage
returns-clause-damage c = λ bytes contents place is at. damaged bytes contents place is at
