use Rattle.std.proofs.Common.{refl}
use Rattle.std.proofs.lemmas.Result.{on_ok_weaker}
use Rattle.world_law.specs.Worlds.{on_tree}
use Rattle.simulator.proofs.Trees.{trees_stand}
use Rattle.simulator.proofs.federation.Federation.declare_tree.Goals as goal

pub returns-in-None : goal.returns-in-None
unfolding on_tree
returns-in-None c =
    on_ok_weaker c.declare.result (λ new w is.
    rw (← is.trees, ← c.in-None.ensures) (trees_stand refl new is)) c.declare.ensures.ok

pub returns-in-Some : goal.returns-in-Some
unfolding on_tree
returns-in-Some c =
    on_ok_weaker c.skip.result (λ skips w is.
    rw (← (rw is.trees at c.in-Some.ensures)) (skips w is)) c.skip.ensures
