use Rattle.sim_stations.proofs.Rest.{stopped}
use Rattle.sim_stations.proofs.run_state.RunState.closed.Goals as goal

pub returns-in-Running : goal.returns-in-Running
returns-in-Running c owner s stands =
    stopped owner c.in-Running.site c.close.result c.close.ensures.cell c.close.ensures.recovers
    s.records s.mode (rw c.in-Running.is at stands)
