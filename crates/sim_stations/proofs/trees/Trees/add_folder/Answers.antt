use Rattle.std.proofs.Common.{None}
use Rattle.sim_stations.proofs.Places.{at, in_range, found_tree, written, still_placed}
use Rattle.sim_stations.proofs.trees.Trees.add_folder.Goals as goal

pub returns-in_default-clause-declared : goal.returns-in_default-clause-declared
returns-in_default-clause-declared c =
    rw (← at c.args.number c.args.self.now None c.in_default.ensures)

pub returns-in_default-clause-after : goal.returns-in_default-clause-after
returns-in_default-clause-after c =
    rw (← at c.args.number c.args.self.now None c.in_default.ensures)

pub index_mut-declared-requires : goal.index_mut-declared-requires
index_mut-declared-requires c =
    rw c.self.inside.trees.ok.0 (in_range c.args.number c.self.view_is c.in-Some.ensures)

pub invariant_of-self : goal.invariant_of-self
invariant_of-self c =
    let is = rw (← c.declared.view_is) at c.index_mut-declared.ensures.value in
    still_placed c.args.number c.self.view_is c.in-Some.ensures is _ c.self.invariant
    c.add_folder.new.self

pub returns-clause-declared : goal.returns-clause-declared
returns-clause-declared c =
    let is = rw (← c.declared.view_is) at c.index_mut-declared.ensures.value in
    rw (← found_tree c.args.number c.self.view_is c.in-Some.ensures is)

pub returns-clause-after : goal.returns-clause-after
returns-clause-after c =
    let is = rw (← c.declared.view_is) at c.index_mut-declared.ensures.value in
    rw (← found_tree c.args.number c.self.view_is c.in-Some.ensures is, ← c.add_folder.ensures)
    (written c.args.number c.self.view_is c.in-Some.ensures is c.add_folder.new.self)
