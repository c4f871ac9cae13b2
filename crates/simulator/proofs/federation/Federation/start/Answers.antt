use Rattle.std.proofs.Common.{◌≡◌, get_or, refl, sym}
use Rattle.std.proofs.lemmas.List.{set-set}
use Rattle.std.proofs.lemmas.Result.{on_ok_weaker}
use Rattle.world_law.specs.Worlds.{mode_of}
use Rattle.simulator.proofs.Called.{started, when_up}
use Rattle.simulator.proofs.federation.Federation.start.Goals as goal

pub returns-then-is_up : goal.returns-then-is_up
returns-then-is_up c =
    on_ok_weaker c.skip.result (λ skips w is.
    rw (when_up w c.args.number _ (mode_of w _) (sym (c.if-is_up.ensures w is))) (skips w is))
    c.skip.ensures

pub returns : goal.returns
returns c =
    let old = c.take-station.result in
    let here : old ≡ get_or c.args.self.now.stations.items c.args.place old =
    rw c.take-station.ensures c.index_mut.ensures.value in
    on_ok_weaker c.tell.result (λ says w is. started {w = w}
    {old = old} {new = c.in_ok-station.station} (record {
      within = c.requires;
      at = here;
      whose = c.in_ok-station.ensures.whose;
      stations = set-set c.args.self.now.stations.items c.args.place _ _;
      same = refl;
    }) is c.args.number c.in_ok-station.records (sym (c.if-is_up.ensures w is))
    c.in_ok-station.ensures.starts refl
    (rw (c.site_at-site.ensures w is) at (says w.seen is.seen))) c.tell.ensures
