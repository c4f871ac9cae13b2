use Rattle.udp_site.specs.Served.{outside, Outside, Rule}
use Rattle.udp_site.specs.inner.OneBatch.{batching, OneBatch}
use Rattle.std.proofs.Common.{◌-◌, ◌≡◌, ℕ, Option, Result, Ok, Err, rules, refl, arith, le_refl}
use Rattle.std.proofs.Common.{le_trans, ◌≤◌, ◌+◌, [], length, None, Some, option_to_list}
use Rattle.cell_device.specs.Devices.{Device}
use Rattle.book.specs.declared.waiting.Waiting.{Waiting}
use Rattle.book.specs.Batches.{BatchCell}
use Rattle.site.specs.Batches.{no_cell}
use Rattle.site.specs.Sites.{OpenSite}
use Rattle.udp_site.specs.declared.fault.ServeFault.{ServeFault}
use Rattle.udp_site.specs.declared.turn.Turn.{Turn}
use Rattle.udp_site.specs.Turns.{IsServing, begins, turn_of}
use Rattle.udp_site.specs.BatchTurns.{Batching}
use Rattle.udp_site.specs.inner.Batched.{carried_of}
use Rattle.udp_site.proofs.OneMoreBatch.{Ended, one_batch_more, ended, all_served}
use Rattle.udp_site.proofs.Shown.{none_added}
use Rattle.udp_site.proofs.Same.{keeps_on, by_rule, stands}
use Rattle.udp_site.proofs.Handed.{is_err}
use Rattle.udp_site.proofs.batch_loop.serve_batches.Goals as goal

-- nothing is carried where no turn is left
none_left : (carried : Option Turn) (done wanted : ℕ)
    → done + length (option_to_list (carried_of carried)) ≤ wanted → wanted ≤ done
    → carried_of carried ≡ None
none_left None done wanted most all = refl
none_left (Some turn) done wanted most all = absurd (omega (arith, most, all))

-- what was lent is as the server left it
given_back : {C : Type 0} (device : C → Device) (rule : Rule Waiting) (before after : Outside)
    (start : Batching C) (held : BatchCell C) (wanted : ℕ) (result : Result (Unit {0}) ServeFault)
    (s t : OpenSite Waiting) → s ≡ t → Ended device rule before after start s held wanted result
    → Ended device rule before after start t held wanted result
given_back device rule before after start held wanted result s t site ends = rw (← site) ends

pub batches-init : goal.batches-init
batches-init g c = record {
  keeps = search rules;
  counted = omega arith;
  most = omega arith;
  idle = omega arith;
  empty = search rules;
  held = c.requires.held;
  waits = c.requires.waits;
  later = le_refl _;
  settled = λ volatile serving place before. absurd (omega (arith, before));
  led = λ volatile serving. (
    begins c.args.site.now volatile,
    [],
    refl,
    refl,
    refl,
    serving,
    refl,
    refl,
    none_added _,
  );
}

pub one_batch-requires : goal.one_batch-requires
one_batch-requires g c =
    let volatile = c.represents_some.ensures.0 in
    let serving : IsServing (begins c.args.site.now volatile) =
    λ opened. c.represents_some.ensures.1 in
    let so_far = c.batches.invariant.led volatile serving in
    record {
      some = omega (arith, c.batches.invariant.most, c.if-done-turns.false);
      idle = omega (
        arith,
        c.batches.invariant.idle,
        c.batches.invariant.most,
        c.ranges.turns.fits,
      );
      empty = c.batches.invariant.empty;
      held = c.batches.invariant.held;
      waits = c.batches.invariant.waits;
      stands = (
        so_far.0,
        stands so_far.2 so_far.5 so_far.3 so_far.4
            (c.batches.invariant.settled volatile serving),
      );
    }

pub batches-preserved : goal.batches-preserved
batches-preserved g c =
    let ok = c.in_ok-done in
    let was = c.batches.invariant in
    let rule = turn_of no_cell c.args.addresses.now (g.F.Folders.gives c.args.folders.now) in
    record {
      keeps = keeps_on was.keeps ok.ensures.keeps;
      counted = omega (arith, ok.ensures.some, was.counted);
      most = omega (arith, ok.ensures.count, was.most);
      idle = omega (arith, ok.ensures.idle, was.idle);
      empty = ok.ensures.empty;
      held = ok.ensures.held;
      waits = ok.ensures.waits;
      later = le_trans was.later ok.ensures.port.later;
      settled = λ volatile serving.
          let so_far = was.led volatile serving in
          ok.ensures.settled so_far.0
          (stands so_far.2 so_far.5 so_far.3 so_far.4 (was.settled volatile serving));
      led = λ volatile serving.
          let so_far = was.led volatile serving in
          one_batch_more g.C.Cell.device rule _ _ _ _ _ _ _ _ _ _ _ _ _ _ _ _ so_far _
          (rw (was.keeps.addresses, was.keeps.kept) at
          (ok.ensures.serves so_far.0
          (stands so_far.2 so_far.5 so_far.3 so_far.4 (was.settled volatile serving))));
    }

pub returns-in_err-done-clause-served : goal.returns-in_err-done-clause-served
returns-in_err-done-clause-served g c volatile serving =
    let left = c.one_batch.new.self in
    let device = g.C.Cell.device in
    let rule = turn_of no_cell c.args.addresses.now (g.F.Folders.gives c.args.folders.now) in
    let was = c.batches.invariant in
    let so_far = was.led volatile serving in
    rw (is_err _ _ c.from_residual.ensures.1)
    (given_back device rule _ _ _ _ _ (Err c.in_err-done.field-0.0) left.site.now _
    (search rules)
    (ended device rule _ _ _ _ _ _ _ _ _ (carried_of c.one_batch.new.carried) _ _
    left.progress.idle left.progress.tried c.batches.done (c.args.turns - c.batches.done)
    so_far c.args.turns (omega (arith, was.most, c.if-done-turns.false)) (omega (arith, was.most)) _
    (by_rule no_cell (λ (r : Rule Waiting). OneBatch device r
    (outside (g.P.Port.traffic c.batches.port) (g.W.Write.contents c.batches.output))
    (outside (g.P.Port.traffic c.one_batch.new.port) (g.W.Write.contents c.one_batch.new.output))
    (batching c.batches.held (carried_of c.batches.carried) so_far.0)
    (c.args.turns - c.batches.done) left.site.now c.one_batch.new.held
    (carried_of c.one_batch.new.carried) left.progress.idle left.progress.tried
    (Err c.in_err-done.field-0.0)) was.keeps.addresses was.keeps.kept
    (c.in_err-done.ensures.serves so_far.0
    (stands so_far.2 so_far.5 so_far.3 so_far.4 (was.settled volatile serving))))))

pub returns-clause-served : goal.returns-clause-served
returns-clause-served g c volatile serving =
    let was = c.batches.invariant in
    let rule = turn_of no_cell c.args.addresses.now (g.F.Folders.gives c.args.folders.now) in
    given_back g.C.Cell.device rule _ _ _ _ _ (Ok tt) c.batches.server.site.now _ (search rules)
    (all_served g.C.Cell.device rule _ _ _ _ _ _ _ _ c.batches.done c.args.turns
    (was.led volatile serving) (omega (arith, was.most, was.counted, c.batches-test.false))
    (none_left c.batches.carried c.batches.done c.args.turns was.most
    (omega (arith, was.most, was.counted, c.batches-test.false))))

pub returns-then-done-turns-clause-served : goal.returns-then-done-turns-clause-served
returns-then-done-turns-clause-served g c volatile serving =
    let was = c.batches.invariant in
    let rule = turn_of no_cell c.args.addresses.now (g.F.Folders.gives c.args.folders.now) in
    given_back g.C.Cell.device rule _ _ _ _ _ (Ok tt) c.batches.server.site.now _ (search rules)
    (all_served g.C.Cell.device rule _ _ _ _ _ _ _ _ c.batches.done c.args.turns
    (was.led volatile serving) (omega (arith, was.most, c.if-done-turns.true))
    (none_left c.batches.carried c.batches.done c.args.turns was.most
    (omega (arith, was.most, c.if-done-turns.true))))
