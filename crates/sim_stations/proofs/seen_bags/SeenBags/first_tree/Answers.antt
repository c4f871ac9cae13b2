use Rattle.sim_stations.proofs.Ordered.{found_by_order}
use Rattle.sim_stations.proofs.Seen.{tree_or_0, tree_of_first}
use Rattle.sim_stations.proofs.seen_bags.SeenBags.first_tree.Goals as goal

pub returns-in-Some : goal.returns-in-Some
unfolding tree_or_0
returns-in-Some c seen stands =
    rw (← tree_of_first c.args.bag seen, ← stands c.args.bag, ← c.self.view_is)
    (rw (← found_by_order c.self.inside.firsts.entries c.args.bag, ← c.in-Some.ensures.value)
    c.number.ensures.value)

pub returns-in-None : goal.returns-in-None
unfolding tree_or_0
returns-in-None c seen stands =
    rw (← tree_of_first c.args.bag seen, ← stands c.args.bag, ← c.self.view_is)
    (rw (← found_by_order c.self.inside.firsts.entries c.args.bag, ← c.in-None.ensures.value))
