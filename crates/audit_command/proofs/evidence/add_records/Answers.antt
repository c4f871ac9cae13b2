use Rattle.std.proofs.lemmas.List.{take_all}
use Rattle.audit_command.proofs.Counted.{next_record}
use Rattle.audit_command.proofs.evidence.add_records.Goals as goal

pub loop-kept-preserved : goal.loop-kept-preserved
loop-kept-preserved c = λ members given is.
    next_record members c.add_record.new.evidence given c.args.site c.args.records.now
    c.loop-kept.kept-index c.kept-item.result c.loop-kept-test.true c.kept-item.is
    (c.in_ok-add_record.ensures members _ (c.loop-kept.invariant members given is))

pub returns : goal.returns
returns c = λ members given is.
    rw (take_all c.loop-kept.kept-index c.args.records.now c.loop-kept-test.false) at
    (c.loop-kept.invariant members given is)
