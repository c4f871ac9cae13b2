use Rattle.bag_explain.proofs.NumberLaws.{numbered_are, malformed_are}
use Rattle.bag_explain.proofs.law.numbers_law.Goals as goal

pub returns-clause-listed : goal.returns-clause-listed
returns-clause-listed c = numbered_are

pub returns-clause-malformed : goal.returns-clause-malformed
returns-clause-malformed c = malformed_are
