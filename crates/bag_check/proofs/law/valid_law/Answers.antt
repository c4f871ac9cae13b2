use Rattle.bag_check.specs.Check.{identity_of}
use Rattle.bag_check.proofs.ValidLaws.{faultless_valid, valid_faultless, valid_checked}
use Rattle.bag_check.proofs.ValidLaws.{checked_valid}
use Rattle.bag_check.proofs.law.valid_law.Goals as goal

pub returns-clause-faultless : goal.returns-clause-faultless
returns-clause-faultless c = λ facts. (valid_faultless facts, faultless_valid facts)

pub returns-clause-checked : goal.returns-clause-checked
returns-clause-checked c = λ facts. (valid_checked facts, checked_valid facts (identity_of facts))
