use Rattle.std.proofs.lemmas.Result.{on_ok_weaker}
use Rattle.simulator.proofs.Called.{raw_arrives, raw_is_formed}
use Rattle.simulator.proofs.federation.Federation.raw.Goals as goal

pub returns-then-branch : goal.returns-then-branch
returns-then-branch c =
    on_ok_weaker c.skip.result (λ skips w is. raw_is_formed _ w c.args.number _ _
    (rw (← is.members, ← c.federation.ensures, ← c.in_ok-is_message.ensures) c.if-branch.true)
    (skips w is)) c.skip.ensures

pub returns : goal.returns
returns c =
    on_ok_weaker c.call.result (λ called w is. raw_arrives _ w c.args.number _ _ is.sound
    (rw (← is.members, ← c.federation.ensures, ← c.in_ok-is_message.ensures) c.if-branch.false)
    (called w is)) c.call.ensures
