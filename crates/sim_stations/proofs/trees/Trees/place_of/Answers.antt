use Rattle.sim_stations.proofs.Ordered.{at_by_order}
use Rattle.sim_stations.proofs.trees.Trees.place_of.Goals as goal

pub returns : goal.returns
returns c =
    rw (c.copied.ensures, c.get.ensures.value)
    (rw (at_by_order c.self.inside.places.entries c.number.result, c.number.ensures.value)
    (rw (← c.self.view_is) (c.self.invariant c.args.number)))
