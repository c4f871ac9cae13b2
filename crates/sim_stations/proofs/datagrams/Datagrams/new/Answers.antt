use Rattle.sim_stations.proofs.Named.{named_nothing}
use Rattle.sim_stations.proofs.datagrams.Datagrams.new.Goals as goal

pub returns-clause-named : goal.returns-clause-named
returns-clause-named g c k =
    rw (c.new-2.ensures.items, c.new-3.ensures.empty) (named_nothing k)
