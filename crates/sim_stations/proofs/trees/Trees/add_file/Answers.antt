use Rattle.std.proofs.Common.{◌∙◌, None, sym, ap}
use Rattle.std.proofs.lemmas.Result.{on_ok_weaker}
use Rattle.bag_tree.specs.Tree.{Files}
use Rattle.world_law.specs.Trees.{put_tree}
use Rattle.sim_stations.proofs.Places.{at, in_range, found_tree, written, still_placed}
use Rattle.sim_stations.proofs.Puts.{filed}
use Rattle.sim_stations.proofs.trees.Trees.add_file.Goals as goal

pub returns-in_default-clause-answer : goal.returns-in_default-clause-answer
returns-in_default-clause-answer c =
    rw (← at c.args.number c.args.self.now None c.in_default.ensures)

pub returns-in_default-clause-ok : goal.returns-in_default-clause-ok
returns-in_default-clause-ok c =
    rw (← at c.args.number c.args.self.now None c.in_default.ensures)

pub index_mut-declared-requires : goal.index_mut-declared-requires
index_mut-declared-requires c =
    rw c.self.inside.trees.ok.0 (in_range c.args.number c.self.view_is c.in-Some.ensures)

pub invariant_of-self : goal.invariant_of-self
invariant_of-self c =
    let is = rw (← c.declared.view_is) at c.index_mut-declared.ensures.value in
    still_placed c.args.number c.self.view_is c.in-Some.ensures is _ c.self.invariant
    c.add_to.new.tree

pub returns-clause-answer : goal.returns-clause-answer
returns-clause-answer c =
    let is = rw (← c.declared.view_is) at c.index_mut-declared.ensures.value in
    rw (← found_tree c.args.number c.self.view_is c.in-Some.ensures is) c.add_to.ensures.answer

pub returns-clause-ok : goal.returns-clause-ok
returns-clause-ok c =
    let is = rw (← c.declared.view_is) at c.index_mut-declared.ensures.value in
    on_ok_weaker c.add_to.result
    (λ e. written c.args.number c.self.view_is c.in-Some.ensures is c.add_to.new.tree
    ∙ ap (λ (f : Files). put_tree c.args.number f c.args.self.now) e
    ∙ filed _ _ _ _ _ (sym (found_tree c.args.number c.self.view_is c.in-Some.ensures is)))
    c.add_to.ensures.ok
