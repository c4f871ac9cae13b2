use Rattle.std.proofs.Common.{arith}
use Rattle.udp_site.proofs.Handed.{is_err}
use Rattle.deposit_list.proofs.Asking.{no_rounds, one_round, round_stopped, no_other, most}
use Rattle.deposit_list.proofs.rounds.ask_rounds.Goals as goal

pub loop-rounds-init : goal.loop-rounds-init
loop-rounds-init g c = no_rounds c.args.deadline c.args.asked.now c.args.entries.now _ _

pub returns-then-not-awaits_round : goal.returns-then-not-awaits_round
returns-then-not-awaits_round g c =
    no_other c.args.deadline c.args.asked.now c.args.entries.now _ _ c.loop-rounds.rounds
    c.loop-rounds.entries _ _ _ (rw c.if-not-awaits_round.true at c.awaits_round.ensures)
    c.loop-rounds.invariant

pub returns-in_err-ask_round : goal.returns-in_err-ask_round
returns-in_err-ask_round g c =
    rw (is_err c.from_residual.result _ c.from_residual.ensures.1)
    (round_stopped c.args.deadline c.args.asked.now c.args.entries.now _ _
    c.loop-rounds.rounds c.loop-rounds.entries _ _ _ _
    (rw c.if-not-awaits_round.false at c.awaits_round.ensures)
    (rw c.at.ensures at c.in_err-ask_round.ensures) c.loop-rounds.invariant)

pub loop-rounds-preserved : goal.loop-rounds-preserved
loop-rounds-preserved g c =
    one_round c.args.deadline c.args.asked.now c.args.entries.now _ _ c.loop-rounds.rounds
    c.loop-rounds.entries c.ask_round.new.entries _ _ _ _
    (rw c.if-not-awaits_round.false at c.awaits_round.ensures)
    (rw c.at.ensures at c.in_ok-ask_round.ensures) c.loop-rounds.invariant

pub returns : goal.returns
returns g c =
    most c.args.deadline c.args.asked.now c.args.entries.now _ _ c.loop-rounds.rounds
    c.loop-rounds.entries _ _ (omega arith) c.loop-rounds.invariant
