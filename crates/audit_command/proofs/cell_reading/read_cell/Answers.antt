use Rattle.std.proofs.Common.{◌++◌, arith, take, true, false, refl}
use Rattle.std.proofs.lemmas.Option.{IfSome_then}
use Rattle.std.proofs.lemmas.Result.{IfOk-weaker}
use Rattle.audit_command.proofs.TakenBytes.{amiss, ended, more_taken}
use Rattle.audit_command.proofs.cell_reading.read_cell.Goals as goal

pub returns-in-Some-eq0 : goal.returns-in-Some-eq0
returns-in-Some-eq0 g c =
    let left = g.F.CellFiles.left in
    let i = c.reads.invariant in
    let now = left c.reads.cell in
    IfOk-weaker c.end.result _ _
    (λ fault counts given is. ended c.args.members.now c.args.rule c.end.new.evidence given
    (left c.args.cell.now) now i.0 true fault fault i.1
    (IfSome_then now (rw c.in-Some-eq0.field-0-test at c.in-Some-eq0.ensures.bytes)
    (λ file ends. ends (omega arith)))
    (counts c.args.rule i.0 given (c.in_ok-note_mark.ensures.counted c.args.members.now c.args.rule
    c.reads.evidence i.0 given (i.2 given is))) refl)
    c.end.ensures

pub returns-in-Ended : goal.returns-in-Ended
returns-in-Ended g c =
    let left = g.F.CellFiles.left in
    let i = c.reads.invariant in
    let first = left c.args.cell.now in
    let after = left c.read_into.new.cell in
    let piece = take c.in-Some.count c.read_into.new.piece in
    λ given is.
    let progress = rw c.in-Ended.is at (c.in_ok-fault-in-Some.ensures c.args.rule i.0 given
    (c.in_ok-note_mark.ensures.counted c.args.members.now c.args.rule c.reads.evidence i.0 given
    (i.2 given is))) in
    amiss c.args.members.now c.args.rule c.take.new.evidence given first after (i.0 ++ piece)
    c.in-Ended.fault
    (more_taken first (left c.reads.cell) after i.0 c.read_into.new.piece c.in-Some.count i.1
    c.in-Some.count-test.1 c.in-Some.ensures.bytes) progress.0 progress.1

pub returns-in-None : goal.returns-in-None
returns-in-None g c =
    let left = g.F.CellFiles.left in
    let i = c.reads.invariant in
    IfOk-weaker c.unread_end.result _ _
    (λ fault counts given is.
    let it = counts c.args.rule i.0 given
    (c.in_ok-note_mark.ensures.counted c.args.members.now c.args.rule c.reads.evidence i.0 given
    (i.2 given is)) in
    ended c.args.members.now c.args.rule c.unread_end.new.evidence given (left c.args.cell.now)
    (left c.reads.cell) i.0 false it.0 fault i.1 c.in-None.ensures.bytes it.1 it.2)
    c.unread_end.ensures

pub reads-preserved : goal.reads-preserved
reads-preserved g c =
    let left = g.F.CellFiles.left in
    let i = c.reads.invariant in
    let piece = take c.in-Some.count c.read_into.new.piece in (
      i.0 ++ piece,
      more_taken (left c.args.cell.now) (left c.reads.cell) (left c.read_into.new.cell) i.0
          c.read_into.new.piece c.in-Some.count i.1 c.in-Some.count-test.1
          c.in-Some.ensures.bytes,
      λ given is.
          rw c.in-More.is at (c.in_ok-fault-in-Some.ensures c.args.rule i.0 given
          (c.in_ok-note_mark.ensures.counted c.args.members.now c.args.rule c.reads.evidence i.0
          given (i.2 given is))),
    )
