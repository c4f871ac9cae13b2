use Rattle.members_file.proofs.Halves.{upper_is, lower_is, new_is_listed}
use Rattle.members_file.proofs.law.new_numbers_law.Goals as goal

pub returns-clause-upper : goal.returns-clause-upper
returns-clause-upper c = upper_is

pub returns-clause-lower : goal.returns-clause-lower
returns-clause-lower c = lower_is

pub returns-clause-listed : goal.returns-clause-listed
returns-clause-listed c = new_is_listed
