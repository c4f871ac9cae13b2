use Rattle.std.proofs.Common.{◌+◌, ◌-◌, arith}
use Rattle.simulator.proofs.Pumped.{pump_idles, pump_ends, pump_turns}
use Rattle.simulator.proofs.federation.Federation.pump.Goals as goal

pub returns-in_default : goal.returns-in_default
returns-in_default c w is =
    rw c.next_unnamed.ensures.same
    (pump_idles c.turns.self _ c.args.number (c.args.turns - c.turns.counter)
    (c.turns.invariant w is) c.in_default.ensures.next)

pub turns-preserved : goal.turns-preserved
turns-preserved c w is =
    pump_turns c.turns.self _ c.args.number (c.args.turns - c.turns.counter) c.deliver.new.self
    (c.args.turns - (c.turns.counter + 1)) c.in-Some.datagram (omega (arith, c.turns-test.true))
    (c.turns.invariant w is) c.in-Some.ensures.next
    (λ v stands. c.in_ok-deliver.ensures v (rw c.next_unnamed.ensures.same stands))

pub returns : goal.returns
returns c w is =
    pump_ends c.turns.self _ c.args.number (c.args.turns - c.turns.counter)
    (omega (arith, c.turns-test.false)) (c.turns.invariant w is)
