use Rattle.std.proofs.Common.{append-nil}
use Rattle.sim_stations.specs.Stations.{IsOpened}
use Rattle.sim_stations.proofs.station.Station.start.Goals as goal

-- the cell that a stopped site leaves is opened with its records
pub returns-clause-starts : goal.returns-clause-starts
returns-clause-starts c s stands =
    let is : IsOpened c.args.self.owner s.records c.in_ok-running.running =
    c.in_ok-running.ensures s.records
    (rw (append-nil s.records) at (c.closed.ensures c.args.self.owner s stands)) in
    ((is.whose, is.up), rw (c.records-count.ensures, is.up.records))
