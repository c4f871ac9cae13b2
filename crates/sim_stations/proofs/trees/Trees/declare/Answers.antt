use Rattle.std.proofs.Common.{◌≡◌, None}
use Rattle.world_law.specs.Trees.{tree_at}
use Rattle.sim_stations.proofs.Ordered.{put_by_order}
use Rattle.sim_stations.proofs.Places.{places_of_more}
use Rattle.sim_stations.proofs.trees.Trees.declare.Goals as goal

pub invariant_of-self-2 : goal.invariant_of-self-2
invariant_of-self-2 c =
    let none : tree_at c.args.number c.self.inside.trees.items ≡ None =
    rw c.self.view_is c.requires in
    rw (c.push_reserved.ensures.items, c.in_ok-reserve.ensures.items)
    (places_of_more c.self.inside.places.entries c.insert.new.self.entries c.args.number
    c.new-files.result c.self.inside.trees.items c.self.invariant none c.number.result c.len.result
    c.number.ensures.value
    (rw (c.len.ensures, c.in_ok-reserve.ensures.len, c.self.inside.trees.ok.0))
    (put_by_order _ _ _ c.len.result c.in_ok-insert.ensures.updates.0))
