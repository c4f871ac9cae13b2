use Rattle.std.proofs.lemmas.Result.{on_ok_weaker}
use Rattle.world_law.specs.Worlds.{on_deposit}
use Rattle.simulator.proofs.federation.Federation.deposit.Goals as goal

pub returns-in_default : goal.returns-in_default
unfolding on_deposit
returns-in_default c =
    on_ok_weaker c.skip.result (λ skips w is.
    rw (← (rw is.trees at c.in_default.ensures)) (skips w is)) c.skip.ensures

pub returns : goal.returns
unfolding on_deposit
returns c =
    on_ok_weaker c.deposit_facts.result (λ done w is.
    rw (← (rw is.trees at c.in-Some.ensures), ← c.in_ok-facts.ensures) (done w is))
    c.deposit_facts.ensures
