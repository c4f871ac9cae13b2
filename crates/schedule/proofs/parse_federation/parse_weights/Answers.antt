use Rattle.std.proofs.Common.{sym}
use Rattle.schedule.proofs.WeightLemmas.{AreSoFar-more, AreSoFar-fault, AreSoFar-all}
use Rattle.schedule.proofs.WeightLemmas.{AreSoFar-weights}
use Rattle.schedule.proofs.parse_federation.parse_weights.Goals as goal

pub returns-in_err-weights : goal.returns-in_err-weights
returns-in_err-weights c =
    rw (AreSoFar-fault c.args.words.now c.loop-place.place c.loop-place.weights _
    c.loop-place-test.true (sym c.in_err-weights.ensures.value) c.loop-place.invariant)
    c.from_residual.ensures

pub loop-place-preserved : goal.loop-place-preserved
loop-place-preserved c =
    AreSoFar-more c.args.words.now c.loop-place.place c.loop-place.weights
    _ c.in_ok-weights.field-0 c.loop-place-test.true c.requires.1
    (sym c.in_ok-weights.ensures.value) c.in_ok-weights.ensures.in_range
    c.loop-place.invariant

pub weighted-requires : goal.weighted-requires
weighted-requires c =
    AreSoFar-weights c.args.words.now c.loop-place.place c.loop-place.weights c.requires
    c.loop-place-test.false c.loop-place.invariant

pub returns : goal.returns
returns c =
    rw (AreSoFar-all c.args.words.now c.loop-place.place c.loop-place.weights
    c.loop-place-test.false c.loop-place.invariant) c.weighted.ensures
