use Rattle.sim_stations.specs.Calls.{input_of}
use Rattle.sim_stations.specs.Stations.{Represents}
use Rattle.sim_stations.specs.declared.run_state.RunState.TheVariants.{Running}
use Rattle.sim_stations.proofs.station.Station.call.Goals as goal

pub returns-in_ok-told-in-Running-clause-comes : goal.returns-in_ok-told-in-Running-clause-comes
returns-in_ok-told-in-Running-clause-comes c s stands =
    let owner = c.args.self.owner in
    let runs : Represents owner (Running c.in-Running.site) s = rw c.in-Running.is at stands in
    c.ended.ensures.ends (input_of owner.members.federation c.args.call.now) c.in-Running.site
    (rw (← runs.0) c.in_ok-told-in-Running.ensures) s runs
