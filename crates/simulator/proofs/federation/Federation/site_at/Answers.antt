use Rattle.simulator.proofs.Places.{station_at}
use Rattle.simulator.proofs.federation.Federation.site_at.Goals as goal

pub returns : goal.returns
returns c w is =
    let here = station_at w.members _ w.network.sites c.args.place c.index.result.now is.stations
    c.requires c.index.ensures in
    rw (c.number-2.ensures.value, c.number.ensures, here.owner)
