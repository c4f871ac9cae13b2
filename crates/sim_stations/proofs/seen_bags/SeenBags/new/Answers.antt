use Rattle.sim_stations.proofs.Seen.{first_of-nil}
use Rattle.sim_stations.proofs.seen_bags.SeenBags.new.Goals as goal

pub returns : goal.returns
returns c bag = rw c.new.ensures.empty (first_of-nil bag)
