use Rattle.sim_stations.proofs.Ordered.{has_by_order}
use Rattle.sim_stations.proofs.datagrams.is_among.Goals as goal

pub returns : goal.returns
returns c = rw c.contains.ensures (has_by_order c.args.others.now.keys c.args.number)
