use Rattle.bag_explain.proofs.FaultLines.{text_one_more, text_all_done}
use Rattle.bag_explain.proofs.entries.push_fault.Goals as goal

pub loop-listing-preserved : goal.loop-listing-preserved
loop-listing-preserved c =
    text_one_more _ _ _ _ _ c.loop-listing.invariant c.listing-item.result _
    c.loop-listing-test.true c.listing-item.is c.in_ok-push_places.ensures

pub returns : goal.returns
returns c =
    text_all_done _ _ _ _ _ c.loop-listing.invariant c.loop-listing-test.false
