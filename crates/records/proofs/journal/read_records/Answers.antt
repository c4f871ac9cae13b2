use Rattle.std.proofs.Common.{length, arith, ap}
use Rattle.std.proofs.lemmas.List.{length-drop}
use Rattle.records.proofs.Walk.{from, from_is}
use Rattle.records.proofs.Again.{next_range, read_end, read_step}
use Rattle.records.proofs.journal.read_records.Goals as goal

pub returns-in-None : goal.returns-in-None
returns-in-None c = λ rs are is.
    read_end c.args.layout c.args.bytes.now rs c.loop-next.place c.args.records.now.items
    c.loop-next.records.items (c.loop-next.invariant.1 rs are is)
    (rw c.in-None.is at c.in_ok-next_record.ensures)

pub loop-next-preserved : goal.loop-next-preserved
loop-next-preserved c =
    let rest = from c.args.bytes.now c.loop-next.place in
    let next = rw c.in-Some.is at c.in_ok-next_record.ensures in
    let range = next_range c.args.layout rest c.in-Some.next c.in-Some.size next in (
      omega (
        arith,
        range,
        ap length (from_is c.args.bytes.now c.loop-next.place),
        length-drop c.loop-next.place c.args.bytes.now,
        c.loop-next.invariant.0,
      ),
      λ rs are is. rw c.in_ok-push-in-Some.ensures.items
          (read_step c.args.layout c.args.bytes.now rs c.loop-next.place
          c.args.records.now.items c.loop-next.records.items c.in-Some.next c.in-Some.size
          (c.loop-next.invariant.1 rs are is) next),
    )
