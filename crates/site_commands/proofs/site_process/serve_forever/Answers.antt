use Rattle.std.proofs.Common.{refl, arith, ◌∙◌, subst, Ok, Err}
use Rattle.proposer.specs.VolatileStates.{new_volatile}
use Rattle.site.specs.Batches.{no_cell}
use Rattle.udp_site.specs.BatchTurns.{begins_with}
use Rattle.udp_site.specs.Served.{outside}
use Rattle.udp_site.specs.Turns.{turn_of}
use Rattle.site_commands.specs.declared.site_arguments.Turns.TheVariants as how
use Rattle.site_commands.proofs.Servings.{none_yet, one_call_more, all_calls, one_failed, CallEnds}
use Rattle.site_commands.proofs.site_process.serve_forever.Goals as goal

pub calls-init : goal.calls-init
calls-init g c = record {
  held = c.requires.held;
  waits = c.requires.waits;
  kept = refl;
  led = λ stands.
      none_yet g.C.Cell.device
      (turn_of no_cell c.args.addresses.now (g.F.Folders.gives c.args.folders.now)) 4294967295
      (outside (g.P.Port.traffic c.args.port.now) (g.W.Write.contents c.args.output.now))
      c.args.site.now c.args.held.now new_volatile (λ opened. stands);
}

pub calls-preserved : goal.calls-preserved
calls-preserved g c = record {
  held = c.in-Ok.ensures.held;
  waits = c.in-Ok.ensures.waits;
  kept = c.in-Ok.ensures.kept ∙ c.calls.invariant.kept;
  led = λ stands.
      let so_far = c.calls.invariant.led stands in
      let mid = outside (g.P.Port.traffic c.calls.port) (g.W.Write.contents c.calls.output) in
      let after = outside (g.P.Port.traffic c.serve_batches.new.port)
      (g.W.Write.contents c.serve_batches.new.output) in
      one_call_more g.C.Cell.device c.args.addresses.now (g.F.Folders.gives c.args.folders.now)
      4294967295
      (outside (g.P.Port.traffic c.args.port.now) (g.W.Write.contents c.args.output.now)) mid after
      (begins_with c.args.site.now c.args.held.now new_volatile) c.calls.site
      c.serve_batches.new.site c.calls.held c.serve_batches.new.held c.calls.counter so_far
      (subst (λ gives. CallEnds g.C.Cell.device (turn_of no_cell c.args.addresses.now gives)
      4294967295 mid after (begins_with c.calls.site c.calls.held so_far.volatile)
      c.serve_batches.new.site c.serve_batches.new.held (Ok tt))
      c.calls.invariant.kept
      (c.in-Ok.ensures.served so_far.volatile so_far.serving));
}

pub returns : goal.returns
returns g c stands =
    let now = outside (g.P.Port.traffic c.calls.port) (g.W.Write.contents c.calls.output) in
    all_calls g.C.Cell.device c.args.addresses.now (g.F.Folders.gives c.args.folders.now) 4294967295
    how.Forever refl
    (outside (g.P.Port.traffic c.args.port.now) (g.W.Write.contents c.args.output.now)) now
    (begins_with c.args.site.now c.args.held.now new_volatile) c.calls.site c.calls.held
    c.calls.counter (c.calls.invariant.led stands) now refl
    (omega (arith, c.calls-test.false, c.calls.auto.counter-end)) (Ok 0) (refl, refl)

pub returns-in-Err : goal.returns-in-Err
returns-in-Err g c stands =
    let so_far = c.calls.invariant.led stands in
    let mid = outside (g.P.Port.traffic c.calls.port) (g.W.Write.contents c.calls.output) in
    let ended = outside (g.P.Port.traffic c.serve_batches.new.port)
    (g.W.Write.contents c.serve_batches.new.output) in
    one_failed g.C.Cell.device c.args.addresses.now (g.F.Folders.gives c.args.folders.now)
    4294967295
    how.Forever refl
    (outside (g.P.Port.traffic c.args.port.now) (g.W.Write.contents c.args.output.now)) mid
    (begins_with c.args.site.now c.args.held.now new_volatile) c.calls.site c.calls.held
    c.calls.counter so_far c.in-Err.fault ended
    (outside (g.P.Port.traffic c.serve_batches.new.port)
    (g.W.Write.contents c.write_stopped.new.output))
    c.serve_batches.new.site c.serve_batches.new.held
    (subst (λ gives. CallEnds g.C.Cell.device (turn_of no_cell c.args.addresses.now gives)
    4294967295 mid ended (begins_with c.calls.site c.calls.held so_far.volatile)
    c.serve_batches.new.site c.serve_batches.new.held (Err c.in-Err.fault))
    c.calls.invariant.kept
    (c.in-Err.ensures.served so_far.volatile so_far.serving))
    (omega (arith, c.calls-test.true)) refl c.write_stopped.result c.write_stopped.ensures
