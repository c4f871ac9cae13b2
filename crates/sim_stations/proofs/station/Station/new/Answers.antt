use Rattle.std.proofs.Common.{[]}
use Rattle.world_law.specs.Networks.{new_site}
use Rattle.sim_stations.specs.Stations.{IsOpened}
use Rattle.sim_stations.proofs.Rest.{empty_keeps_none}
use Rattle.sim_stations.proofs.station.Station.new.Goals as goal

pub returns-clause-is_new : goal.returns-clause-is_new
unfolding new_site
returns-clause-is_new c =
    let is : IsOpened c.args.owner [] c.in_ok-opened.opened =
    c.in_ok-opened.ensures [] (empty_keeps_none c.args.owner c.new-empty.result
    (rw (c.new-empty.ensures.bytes, c.new.ensures.items))) in
    (is.whose, is.up)
