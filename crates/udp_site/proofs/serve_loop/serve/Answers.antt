use Rattle.udp_site.specs.Served.{outside, Outside, Rule}
use Rattle.std.proofs.Common.{◌≡◌, ℕ, List, Option, Result, Ok, Err, rules, refl, arith, []}
use Rattle.udp_site.specs.inner.OneTurn.{OneTurn}
use Rattle.udp_site.specs.Turns.{Serving, begins, turn_of}
use Rattle.site.specs.Sites.{OpenSite}
use Rattle.udp_site.specs.declared.fault.ServeFault.{ServeFault}
use Rattle.udp_site.specs.Traffic.{Move}
use Rattle.udp_site.proofs.OneMoreTurn.{Ended, one_turn_more, ended, all_served}
use Rattle.udp_site.proofs.Same.{keeps_on, by_rule, stands}
use Rattle.udp_site.proofs.Shown.{none_added}
use Rattle.udp_site.proofs.Handed.{is_err}
use Rattle.udp_site.proofs.serve_loop.serve.Goals as goal

-- what was lent is as the server left it
given_back : {C P : Type 0} (rule : Rule C) (before : Outside) (start : Serving C) (wanted : ℕ)
    (result : Result (Unit {0}) ServeFault) (traffic : P → Option (List Move))
    (written : Option (List ℕ)) (p q : P) (s t : OpenSite C)
    → p ≡ q → s ≡ t → Ended rule before (outside (traffic p) written) start s wanted result
    → Ended rule before (outside (traffic q) written) start t wanted result
given_back rule before start wanted result traffic written p q s t port site ends =
    rw (← port, ← site) ends

pub turns-init : goal.turns-init
turns-init g c = record {
  keeps = search rules;
  idle = omega arith;
  settled = λ volatile serving place before. absurd (omega (arith, before));
  led = λ volatile serving. (
    begins c.args.site.now volatile,
    [],
    refl,
    refl,
    refl,
    serving,
    refl,
    refl,
    none_added _,
  );
}

pub turns-preserved : goal.turns-preserved
turns-preserved g c =
    let was = c.turns.invariant in
    let ok = c.in_ok-one_turn.ensures in
    let rule =
    turn_of g.C.Cell.device c.args.addresses.now (g.F.Folders.gives c.args.folders.now) in
    record {
      keeps = keeps_on was.keeps ok.keeps;
      idle = omega (arith, ok.count, was.idle);
      settled = λ volatile serving.
          let so_far = was.led volatile serving in
          ok.settled so_far.0
          (stands so_far.2 so_far.5 so_far.3 so_far.4 (was.settled volatile serving));
      led = λ volatile serving.
          let so_far = was.led volatile serving in
          one_turn_more rule _ _ _ _ _ _ _ _ _ _ _ so_far
          (rw (was.keeps.addresses, was.keeps.kept) at
          (ok.turn so_far.0
          (stands so_far.2 so_far.5 so_far.3 so_far.4 (was.settled volatile serving))));
    }

pub returns-in_err-one_turn-clause-served : goal.returns-in_err-one_turn-clause-served
returns-in_err-one_turn-clause-served g c volatile serving =
    let rule =
    turn_of g.C.Cell.device c.args.addresses.now (g.F.Folders.gives c.args.folders.now) in
    let left = c.one_turn.new.self in
    let was = c.turns.invariant in
    let so_far = was.led volatile serving in
    rw (is_err _ _ c.from_residual.ensures.1)
    (given_back rule _ _ _ (Err c.in_err-one_turn.field-0.0) g.P.Port.traffic _ left.port.now _
    left.site.now _ (search rules) (search rules)
    (ended rule _ _ _ _ _ _ _ _ left.progress.idle left.progress.tried _ so_far _
    c.turns-test.true _
    (by_rule g.C.Cell.device (λ (r : Rule g.row.C.Denot). OneTurn r
    (outside (g.P.Port.traffic c.turns.server.port.now) (g.W.Write.contents c.turns.output))
    (outside (g.P.Port.traffic left.port.now) (g.W.Write.contents c.one_turn.new.output)) so_far.0
    left.site.now left.progress.idle left.progress.tried (Err c.in_err-one_turn.field-0.0))
    was.keeps.addresses was.keeps.kept
    (c.in_err-one_turn.ensures.turn so_far.0
    (stands so_far.2 so_far.5 so_far.3 so_far.4 (was.settled volatile serving))))))

pub returns-clause-served : goal.returns-clause-served
returns-clause-served g c volatile serving =
    let rule =
    turn_of g.C.Cell.device c.args.addresses.now (g.F.Folders.gives c.args.folders.now) in
    given_back rule _ _ _ (Ok tt) g.P.Port.traffic _ c.turns.server.port.now _
    c.turns.server.site.now _ (search rules) (search rules)
    (all_served rule _ _ _ _ _ _ _ _ (c.turns.invariant.led volatile serving)
    (omega (arith, c.turns-test.false)))
