use Rattle.bag_explain.specs.inner.Stages.{entry_fault_of}
use Rattle.bag_explain.proofs.FaultLines.{one_more, all_done}
use Rattle.bag_explain.proofs.entries.push_entries.Goals as goal

pub loop-entry-preserved : goal.loop-entry-preserved
loop-entry-preserved c =
    one_more (entry_fault_of c.args.fault) _ _ _ _ c.entries-entry-items.ensures _ _
    c.loop-entry.invariant c.entry-item.result _ c.loop-entry-test.true c.entry-item.is
    c.in_ok-push_if_faulty.ensures

pub returns : goal.returns
returns c =
    all_done (entry_fault_of c.args.fault) _ _ _ _ c.entries-entry-items.ensures _ _
    c.loop-entry.invariant c.loop-entry-test.false
