use Rattle.std.proofs.Common.{arith, ◌∙◌, refl}
use Rattle.udp_site.proofs.Handed.{is_err}
use Rattle.catch_up.proofs.Paces.{no_pauses, awaited, after_round}
use Rattle.catch_up.proofs.Questions.{at_first_round, then_round, stops_at_round}
use Rattle.catch_up.proofs.Questions.{asked_all, asked_most, same_at_most}
use Rattle.catch_up.proofs.rounds.ask_rounds.Goals as goal

pub loop-count-init : goal.loop-count-init
loop-count-init g c = (
  at_first_round c.args.asked.now c.args.versions.now _ _ c.at-round.result c.at-round.ensures,
  no_pauses c.args.seconds _,
  refl,
)

pub returns-in_err-same-clause-asked : goal.returns-in_err-same-clause-asked
returns-in_err-same-clause-asked g c =
    let next = awaited c.args.seconds _ _ _ _ _ c.loop-count.invariant.1
    (rw c.if-not-awaits_round.false at c.awaits_round.ensures) in
    rw (is_err c.from_residual.result _ c.from_residual.ensures.1)
    (stops_at_round c.args.asked.now c.args.versions.now _ _ c.args.seconds _ _
    c.loop-count.round c.loop-count.versions c.ask_round.new.versions _ _ _ _ _ _
    c.in_err-same.field-0.0 c.loop-count.invariant.0 next c.in_err-same.ensures.asked)

pub overflow_add-same : goal.overflow_add-same
overflow_add-same g c =
    let next = awaited c.args.seconds _ _ _ _ _ c.loop-count.invariant.1
    (rw c.if-not-awaits_round.false at c.awaits_round.ensures) in
    omega (
      arith,
      same_at_most c.args.asked.now c.args.versions.now _ _ _ c.ask_round.new.versions _ _ _ _
          (then_round c.args.asked.now c.args.versions.now _ _ c.loop-count.round
          c.loop-count.versions c.ask_round.new.versions _ _ _ _ _ _ _ c.loop-count.invariant.0
          next.1 c.in_ok-same.ensures.asked),
    )

pub loop-count-preserved : goal.loop-count-preserved
loop-count-preserved g c =
    let next = awaited c.args.seconds _ _ _ _ _ c.loop-count.invariant.1
    (rw c.if-not-awaits_round.false at c.awaits_round.ensures) in (
      rw c.next-round.ensures
          (then_round c.args.asked.now c.args.versions.now _ _ c.loop-count.round
          c.loop-count.versions c.ask_round.new.versions _ _ _ _ _ _ _ c.loop-count.invariant.0
          next.1 c.in_ok-same.ensures.asked),
      after_round c.args.seconds _ _ c.loop-count.count _ next,
      c.in_ok-same.ensures.cause.same (λ is. absurd (cc is)) ∙ c.loop-count.invariant.2,
    )

pub returns-then-not-awaits_round-clause-asked : goal.returns-then-not-awaits_round-clause-asked
returns-then-not-awaits_round-clause-asked g c =
    asked_all c.args.asked.now c.args.versions.now _ _ c.args.seconds _ _ _ _
    c.loop-count.versions _ _ _ _ (omega arith) c.loop-count.invariant.0 c.loop-count.invariant.1
    (rw c.if-not-awaits_round.true at c.awaits_round.ensures)

pub returns-clause-asked : goal.returns-clause-asked
returns-clause-asked g c =
    asked_most c.args.asked.now c.args.versions.now _ _ c.args.seconds _ _ _
    c.loop-count.versions _ _ _ c.loop-count.count (omega arith) (omega arith)
    c.loop-count.invariant.0 c.loop-count.invariant.1
