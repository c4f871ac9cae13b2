use Rattle.std.proofs.Common.{sym}
use Rattle.bag_check.proofs.Keyed.{has_text-inserted}
use Rattle.bag_explain.proofs.Repeated.{listed_next}
use Rattle.bag_explain.proofs.entries.listed_paths.Goals as goal

pub loop-entry-preserved : goal.loop-entry-preserved
loop-entry-preserved c = λ q.
    let before = c.loop-entry.listed in
    let entry = c.entry-item.result in
    rw (
      has_text-inserted c.path.result before c.insert.new.self c.in_ok-insert.ensures.updates q,
      c.path.ensures,
      c.entry.ensures,
      c.loop-entry.invariant q,
    )
    (sym (listed_next c.args.entries.now c.loop-entry.entry-index entry c.loop-entry-test.true
    c.entry-item.is q))
