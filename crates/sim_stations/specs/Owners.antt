-- The owner of a station, and whether it runs.
use Rattle.records.specs.declared.owner.Owner.{Owner}
use Rattle.sim_stations.specs.declared.run_state.RunState.{RunState}
use Rattle.sim_stations.specs.declared.station.Station.{Station}

abbrev pub owner_of : Station → Owner
owner_of station = station.owner

abbrev pub run_state_of : Station → RunState
run_state_of station = station.run_state
