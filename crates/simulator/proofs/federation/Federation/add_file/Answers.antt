use Rattle.std.proofs.Common.{refl}
use Rattle.std.proofs.lemmas.Result.{on_ok_weaker}
use Rattle.world_law.specs.Trees.{tree_at}
use Rattle.sim_stations.specs.declared.trees.Added.TheVariants.{Done, NoTree, BadFile}
use Rattle.simulator.proofs.Trees.{file_ends}
use Rattle.simulator.proofs.federation.Federation.add_file.Goals as goal

pub returns-in-Done : goal.returns-in-Done
returns-in-Done c w is =
    file_ends c.args.number c.args.tree c.args.path.now c.args.bytes.now
    (tree_at c.args.tree w.trees) refl (rw is.trees at c.in_ok-add_file.ensures.ok) is Done
    (rw (is.trees, c.in-Done.is) at c.in_ok-add_file.ensures.answer) refl

pub returns-in-NoTree : goal.returns-in-NoTree
returns-in-NoTree c =
    on_ok_weaker c.skip.result (λ skips w is. file_ends c.args.number c.args.tree c.args.path.now
    c.args.bytes.now (tree_at c.args.tree w.trees) refl
    (rw is.trees at c.in_ok-add_file.ensures.ok) is NoTree
    (rw (is.trees, c.in-NoTree.is) at c.in_ok-add_file.ensures.answer) (skips w)) c.skip.ensures

pub returns-in-BadFile : goal.returns-in-BadFile
returns-in-BadFile c =
    on_ok_weaker c.skip-in-BadFile.result (λ skips w is. file_ends c.args.number c.args.tree
    c.args.path.now c.args.bytes.now (tree_at c.args.tree w.trees) refl
    (rw is.trees at c.in_ok-add_file.ensures.ok) is BadFile
    (rw (is.trees, c.in-BadFile.is) at c.in_ok-add_file.ensures.answer) (skips w))
    c.skip-in-BadFile.ensures
