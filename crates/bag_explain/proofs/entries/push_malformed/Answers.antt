use Rattle.std.proofs.Common.{get_or, append-nil, string_bytes}
use Rattle.std.proofs.lemmas.List.{get_or_default}
use Rattle.bag_check.specs.declared.fault.BagFault.TheVariants.{MalformedLine}
use Rattle.bag_explain.specs.Places.{malformed_at}
use Rattle.bag_explain.proofs.FaultLines.{one_more, all_done}
use Rattle.bag_explain.proofs.entries.push_malformed.Goals as goal

pub loop-line-preserved : goal.loop-line-preserved
loop-line-preserved c =
    let items = c.malformed-line-items.result.now in
    let i = c.loop-line.line-index in
    let line = get_or items i 0 in
    one_more MalformedLine (malformed_at c.args.listing.now) _ _ _ c.malformed-line-items.ensures
    _ _ c.loop-line.invariant line (string_bytes c.push_line.new.text) c.loop-line-test.true
    (get_or_default items i 0 line c.loop-line-test.true)
    (rw (append-nil, ← c.name-name.ensures) c.in_ok-push_line.ensures)

pub returns : goal.returns
returns c =
    all_done MalformedLine (malformed_at c.args.listing.now) _ _ _ c.malformed-line-items.ensures
    _ _ c.loop-line.invariant
    c.loop-line-test.false
