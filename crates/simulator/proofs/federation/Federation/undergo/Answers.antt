use Rattle.std.proofs.Common.{◌≡◌, get_or, refl}
use Rattle.std.proofs.lemmas.List.{set-set}
use Rattle.sim_stations.specs.Calls.{input_of}
use Rattle.simulator.proofs.Called.{undergone, then_all_ok}
use Rattle.simulator.proofs.federation.Federation.undergo.Goals as goal

pub returns : goal.returns
returns c =
    let old = c.take-station.result in
    let here : old ≡ get_or c.args.self.now.stations.items c.args.place old =
    rw c.take-station.ensures c.index_mut.ensures.value in
    then_all_ok c.send_all.result (λ lines sent named w is up sound.
    undergone {old = old} {new = c.in_ok-station.station}
    (λ federation. input_of federation c.args.call.now) c.args.fate c.in_ok-station.told
    c.tell.new.lines.items (record {
      within = c.requires;
      at = here;
      whose = c.in_ok-station.ensures.whose;
      stations = set-set c.args.self.now.stations.items c.args.place _ _;
      same = refl;
    }) is up sound c.in_ok-station.ensures.comes (c.in_ok-tell.ensures w.seen is.seen) lines sent
    named)
    c.send_all.ensures.lines c.send_all.ensures.sent c.send_all.ensures.named
