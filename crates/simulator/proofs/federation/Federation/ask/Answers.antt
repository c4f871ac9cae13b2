use Rattle.std.proofs.lemmas.Result.{on_ok_weaker}
use Rattle.simulator.proofs.Called.{asks}
use Rattle.simulator.proofs.Places.{station_at}
use Rattle.simulator.proofs.federation.Federation.ask.Goals as goal

pub returns : goal.returns
returns c =
    on_ok_weaker c.call.result (λ called w is.
    let asked = station_at w.members _ w.network.sites c.args.asked c.index.result.now is.stations
    c.requires.asked c.index.ensures in
    asks c.args.self.now _ w c.args.number c.args.place c.args.asked c.number-to.result
    c.args.slot.now c.args.fate is c.requires.asked (rw (c.number-to.ensures, asked.owner))
    c.slots_are_well_formed.ensures (called w is)) c.call.ensures
