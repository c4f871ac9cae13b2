use Rattle.std.proofs.Common.{arith}
use Rattle.std.proofs.lemmas.List.{length-drop}
use Rattle.records.proofs.Walk.{from_is}
use Rattle.ledger.proofs.Passages.{left_next, left_end}
use Rattle.ledger.proofs.sizes.pass_sizes.Goals as goal

pub loop-size-preserved : goal.loop-size-preserved
loop-size-preserved c =
    let bytes = c.args.bytes.now in
    let len = c.loop-size.len in
    let size = c.in-Some.size in
    let at = rw (from_is bytes len) at c.in-Some.ensures in (
      omega (arith, at.3, length-drop len bytes, c.loop-size.invariant.0),
      λ l records rest are is stops. left_next l bytes records rest len size stops
          (c.loop-size.invariant.1 l records rest are is stops) at,
    )

pub returns-clause-passed : goal.returns-clause-passed
returns-clause-passed c = λ l records rest are is stops.
    let bytes = c.args.bytes.now in
    let len = c.loop-size.len in
    left_end l bytes records rest len (c.loop-size.invariant.1 l records rest are is stops)
    (rw (from_is bytes len) at c.in_default.ensures)
