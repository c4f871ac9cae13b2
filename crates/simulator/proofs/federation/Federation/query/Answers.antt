use Rattle.std.proofs.lemmas.Result.{on_ok_weaker}
use Rattle.simulator.proofs.Called.{no_reply}
use Rattle.simulator.proofs.Places.{station_at}
use Rattle.simulator.proofs.federation.Federation.query.Goals as goal

pub returns-in-None : goal.returns-in-None
returns-in-None c =
    on_ok_weaker c.skip.result (λ skips w is.
    let here = station_at w.members _ w.network.sites c.args.place c.index.result.now is.stations
    c.requires c.index.ensures in
    rw (no_reply w c.args.number _ c.args.slot.now (c.in-None.ensures _ here.stands)) (skips w is))
    c.skip.ensures
