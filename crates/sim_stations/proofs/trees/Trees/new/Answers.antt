use Rattle.sim_stations.proofs.Places.{no_places}
use Rattle.sim_stations.proofs.trees.Trees.new.Goals as goal

pub invariant_of-result : goal.invariant_of-result
invariant_of-result c = no_places _ _ c.new-2.ensures.empty c.new.ensures.items
