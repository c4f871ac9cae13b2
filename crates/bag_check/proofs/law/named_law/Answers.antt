use Rattle.bag_check.proofs.NamedLaws.{check_named, check_kept, named_facts}
use Rattle.bag_check.proofs.law.named_law.Goals as goal

pub returns-clause-verdict : goal.returns-clause-verdict
returns-clause-verdict c = check_named

pub returns-clause-facts : goal.returns-clause-facts
returns-clause-facts c = check_kept

pub returns-clause-hashed : goal.returns-clause-hashed
returns-clause-hashed c = named_facts
