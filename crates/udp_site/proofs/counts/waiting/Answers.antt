use Rattle.std.proofs.Common.{refl, sym, ◌∙◌, arith}
use Rattle.udp_site.specs.Status.{waiting_before}
use Rattle.udp_site.proofs.Counted.{one_more, none_more, all_places}
use Rattle.udp_site.proofs.counts.waiting.Goals.{then-waits, else-waits}
use Rattle.udp_site.proofs.counts.waiting.Goals as goal

pub loop-place-init : goal.loop-place-init
unfolding waiting_before
loop-place-init g c = (refl, omega (arith))

pub loop-place-preserved : goal.loop-place-preserved
loop-place-preserved g c =
    let records = c.args.site.now.book.records in
    elim c.if-waits.branch [
      | then-waits w ↦ (
        w.count-is
            ∙ one_more records c.loop-place.place c.loop-place.count c.loop-place.invariant.0
            (sym w.if-waits.true ∙ c.waits.ensures),
        omega (arith, w.count-is, c.loop-place.invariant.1),
      )
      | else-waits w ↦ (
        w.count-is
            ∙ none_more records c.loop-place.place c.loop-place.count c.loop-place.invariant.0
            (sym w.if-waits.false ∙ c.waits.ensures),
        omega (arith, w.count-is, c.loop-place.invariant.1),
      )
    ]

pub returns : goal.returns
returns g c =
    all_places c.args.site.now.book.records c.records-place-end.result.now c.loop-place.place
    c.loop-place.count c.records-place-end.ensures c.loop-place.invariant.0
    c.loop-place.auto.place-end c.loop-place-test.false
