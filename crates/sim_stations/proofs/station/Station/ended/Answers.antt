use Rattle.std.proofs.Common.{refl}
use Rattle.sim_stations.proofs.Stops.{stops_after, stops_in, goes_on}
use Rattle.sim_stations.proofs.station.Station.ended.Goals as goal

pub returns-in-StopsAfter-clause-ends : goal.returns-in-StopsAfter-clause-ends
returns-in-StopsAfter-clause-ends c input site comes =
    let is = c.stopped.ensures in
    rw c.in-StopsAfter.is
    (stops_after c.args.self.owner input c.in-StopsAfter.first site c.args.self.run_state
    c.stopped.result.0.run_state c.args.told c.stopped.result.1 is.stops is.notice is.sends
    (rw c.in-StopsAfter.is at comes))

pub returns-in-StopsIn-clause-ends : goal.returns-in-StopsIn-clause-ends
returns-in-StopsIn-clause-ends c input site comes =
    let is = c.stopped-in-StopsIn.ensures in
    rw c.in-StopsIn.is
    (stops_in c.args.self.owner input 0 site c.args.self.run_state
    c.stopped-in-StopsIn.result.0.run_state c.args.told c.stopped-in-StopsIn.result.1
    is.stops is.notice is.sends refl c.in-StopsIn.field-0 c.in-StopsIn.field-1
    (rw c.in-StopsIn.is at comes))

pub returns-in-Whole-clause-ends : goal.returns-in-Whole-clause-ends
returns-in-Whole-clause-ends c input site comes =
    goes_on c.args.self.owner input c.args.fate site c.args.self.run_state c.args.told c.in-Whole.is
    comes
