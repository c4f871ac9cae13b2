use Rattle.audit.proofs.Found.{found_no_conflict, found_chosen, shown_found}
use Rattle.audit.proofs.Found.{two_found, one_found}
use Rattle.audit.proofs.law.findings_are_true.Goals as goal

pub returns-clause-no_conflict : goal.returns-clause-no_conflict
returns-clause-no_conflict c = found_no_conflict

pub returns-clause-chosen : goal.returns-clause-chosen
returns-clause-chosen c = found_chosen

pub returns-clause-shown : goal.returns-clause-shown
returns-clause-shown c = shown_found

pub returns-clause-split : goal.returns-clause-split
returns-clause-split c = two_found

pub returns-clause-named : goal.returns-clause-named
returns-clause-named c = one_found
