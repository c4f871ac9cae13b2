use Rattle.ledger.proofs.IntactEnds.{intact, not_headless}
use Rattle.ledger.proofs.read.intact_end.Goals as goal

pub returns-in_ok-find_all-in-Some-clause-end : goal.returns-in_ok-find_all-in-Some-clause-end
returns-in_ok-find_all-in-Some-clause-end c = λ said is.
    let bytes = c.args.bytes.now in
    let headed = rw c.in-Some.is at c.in_ok-owner.ensures in
    intact bytes said is c.in-Some.owner c.in_ok-find_all-in-Some.field-0 headed
    c.in_ok-find_all-in-Some.ensures

pub returns-in-None-clause-end : goal.returns-in-None-clause-end
returns-in-None-clause-end c = λ said is.
    let bytes = c.args.bytes.now in
    let none = rw c.in-None.is at c.in_ok-owner.ensures in
    not_headless bytes said is none 0
