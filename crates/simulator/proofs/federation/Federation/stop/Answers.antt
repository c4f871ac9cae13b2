use Rattle.std.proofs.Common.{◌≡◌, get_or, refl, sym}
use Rattle.std.proofs.lemmas.List.{set-set}
use Rattle.std.proofs.lemmas.Result.{on_ok_weaker}
use Rattle.simulator.proofs.Called.{stopped}
use Rattle.simulator.proofs.federation.Federation.stop.Goals as goal

pub returns : goal.returns
returns c =
    let old = c.take-station.result in
    let here : old ≡ get_or c.args.self.now.stations.items c.args.place old =
    rw c.take-station.ensures c.index_mut.ensures.value in
    on_ok_weaker c.tell.result (λ says w is. stopped {w = w}
    {old = old} {new = c.stop.result} (record {
      within = c.requires;
      at = here;
      whose = c.stop.ensures.whose;
      stations = set-set c.args.self.now.stations.items c.args.place _ _;
      same = refl;
    }) is c.args.number (sym (c.if-is_down.ensures w is)) c.stop.ensures.stops refl
    (rw (c.site_at-site.ensures w is) at (says w.seen is.seen))) c.tell.ensures
