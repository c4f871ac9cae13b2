use Rattle.std.proofs.Common.{refl}
use Rattle.std.proofs.lemmas.Result.{on_ok_weaker}
use Rattle.world_law.specs.Trees.{tree_at}
use Rattle.simulator.proofs.Trees.{folder_added, no_folder}
use Rattle.simulator.proofs.federation.Federation.add_folder.Goals as goal

pub returns-then-add_folder : goal.returns-then-add_folder
returns-then-add_folder c w is =
    folder_added c.args.number c.args.tree (tree_at c.args.tree w.trees) refl
    (rw is.trees at c.if-add_folder.ensures.after) is
    (rw is.trees at c.if-add_folder.ensures.declared)

pub returns : goal.returns
returns c =
    on_ok_weaker c.skip.result (λ skips w is. no_folder c.args.number c.args.tree
    (tree_at c.args.tree w.trees) refl (rw is.trees at c.if-add_folder.ensures.after) is
    (rw is.trees at c.if-add_folder.ensures.declared) (skips w)) c.skip.ensures
