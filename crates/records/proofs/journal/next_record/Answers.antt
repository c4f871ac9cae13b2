use Rattle.std.proofs.Common.{inl, inr}
use Rattle.records.proofs.Again.{none_next, whole_next, unread_next}
use Rattle.records.proofs.journal.next_record.Goals as goal

pub returns-in-End : goal.returns-in-End
returns-in-End c = none_next c.args.layout c.args.bytes.now (inl c.in-End.ensures)

pub returns-in-Damaged : goal.returns-in-Damaged
returns-in-Damaged c = none_next c.args.layout c.args.bytes.now (inr c.in-Damaged.ensures)

pub returns-in-Ok : goal.returns-in-Ok
returns-in-Ok c = whole_next c.args.layout c.args.bytes.now c.in-Whole.size c.in-Whole.ensures
    c.in-Ok.record c.in-Ok.ensures

pub returns-in-Err-Malformed : goal.returns-in-Err-Malformed
returns-in-Err-Malformed c =
    unread_next c.args.layout c.args.bytes.now c.in-Whole.size c.in-Whole.ensures
    (rw c.in-Err-Malformed.field-0-is at c.in-Err-Malformed.ensures)
