use Rattle.bag_folders.proofs.Shown.{check_named, check_shown, complete_by}
use Rattle.bag_folders.proofs.law.needed_law.Goals as goal

pub returns-clause-named : goal.returns-clause-named
returns-clause-named c = check_named

pub returns-clause-shown : goal.returns-clause-shown
returns-clause-shown c = check_shown

pub returns-clause-complete : goal.returns-clause-complete
returns-clause-complete c = complete_by
