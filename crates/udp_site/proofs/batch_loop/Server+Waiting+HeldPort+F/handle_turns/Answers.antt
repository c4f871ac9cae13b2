use Rattle.std.proofs.Common.{[], arith}
use Rattle.std.proofs.lemmas.List.{take_all}
use Rattle.site.specs.Batches.{no_cell}
use Rattle.udp_site.specs.Turns.{turn_of}
use Rattle.udp_site.specs.inner.Outcomes.{at}
use Rattle.udp_site.proofs.BatchOfTurns.{one_more_taken, broken_off}
use Rattle.udp_site.proofs.Handed.{is_err}
use Rattle.udp_site.proofs.Same.{keeps_on, stands}
use Rattle.udp_site.proofs.KeptRecords.{settled_after}
use Rattle.udp_site.proofs.batch_loop.Server+Waiting+HeldPort+F.handle_turns.Goals as goal

pub loop-place-preserved : goal.loop-place-preserved
loop-place-preserved g c =
    let was = c.loop-place.invariant in
    let ok = c.in_ok-handle_turn.ensures in
    let gives = g.F.Folders.gives c.args.self.now.folders.now in
    let rule = turn_of no_cell c.args.self.now.addresses.now gives in
    record {
      keeps = keeps_on was.keeps ok.keeps;
      within = omega (arith, c.loop-place-test.true, was.within);
      count = omega (arith, c.loop-place-test.true, ok.turn.count, was.count);
      settled = λ s here settled.
          let so_far = was.takes s here settled in
          let now = was.settled s here settled in
          let came = rw (was.keeps.addresses, was.keeps.kept) at
          (ok.turn.comes so_far.1 (stands so_far.4 so_far.7 so_far.5 so_far.6 now)) in
          settled_after no_cell c.args.self.now.addresses.now gives so_far.1 _ _ _ _ _ came.2.0
          came.3
          (rw so_far.4 (ok.turn.settled now));
      takes = λ s here settled.
          let so_far = was.takes s here settled in
          let now = was.settled s here settled in
          one_more_taken rule _ _ _ _ _ _ _ _ _ _ _ _ _ _ c.loop-place-test.true
          c.index-batch-place.is so_far
          (rw (was.keeps.addresses, was.keeps.kept) at
          (ok.turn.comes so_far.1 (stands so_far.4 so_far.7 so_far.5 so_far.6 now)));
    }

pub returns-in_err-handle_turn-clause-takes : goal.returns-in_err-handle_turn-clause-takes
returns-in_err-handle_turn-clause-takes g c s here settled =
    let was = c.loop-place.invariant in
    let rule =
    turn_of no_cell c.args.self.now.addresses.now (g.F.Folders.gives c.args.self.now.folders.now) in
    let so_far = was.takes s here settled in
    let now = was.settled s here settled in
    rw (is_err _ _ c.from_residual.ensures.1)
    (broken_off rule _ _ _ _ _ _ [] _ _ _ _ _ _ _ c.loop-place-test.true c.index-batch-place.is
    so_far _
    (rw (was.keeps.addresses, was.keeps.kept) at
    (c.in_err-handle_turn.ensures.turn.comes so_far.1
    (stands so_far.4 so_far.7 so_far.5 so_far.6 now))))

pub returns-clause-takes : goal.returns-clause-takes
returns-clause-takes g c s here settled =
    rw (← take_all c.loop-place.place c.args.batch.now c.loop-place-test.false)
    (c.loop-place.invariant.takes s here settled)
