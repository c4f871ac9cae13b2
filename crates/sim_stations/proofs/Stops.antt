-- A call after which the site stops: what it would have come to had the site run on, and then the
-- stop.
use Rattle.std.specs.Prelude.{◌≡◌, ◌⊎◌, ℕ, [], ◌++◌, take, Option, Some, None}
use Rattle.std.specs.Option.{option_to_list}
use Rattle.std.specs.List.{take-map}
use Rattle.std.proofs.Common.{append-nil, inl, inr, refl}
use Rattle.fed_types.specs.Quorums.{quorums_of}
use Rattle.cell_device.specs.declared.memory_cell.MemoryCell.{MemoryCell}
use Rattle.records.specs.declared.owner.Owner.{Owner}
use Rattle.records.specs.declared.record.Record.{Record}
use Rattle.records.specs.Texts.{kept_record}
use Rattle.proposer.specs.VolatileStates.{new_volatile}
use Rattle.schedule.specs.declared.fate.DeviceCall.{DeviceCall}
use Rattle.schedule.specs.declared.fate.Fate.{Fate}
use Rattle.schedule.specs.declared.fate.Fate.TheVariants as fates
use Rattle.site.specs.declared.fault.SiteFault.TheVariants as faults
use Rattle.site.specs.Calls.{Input, effect_of}
use Rattle.site.specs.Datagrams.{handed_out, datagram}
use Rattle.site.specs.Effects.{Effect, refuses}
use Rattle.site.specs.Sites.{OpenSite}
use Rattle.world_law.specs.Networks.{Mode, Up, Down, NeedsOpening, SiteState, SiteOutcome}
use Rattle.world_law.specs.Networks.{outcome, goes_down, step}
use Rattle.sim_stations.specs.declared.run_state.RunState.{RunState}
use Rattle.sim_stations.specs.declared.run_state.RunState.TheVariants.{Running}
use Rattle.lines.specs.declared.notice.Notice.TheVariants.{GoesDown}
use Rattle.sim_stations.specs.declared.told.Told.{Told}
use Rattle.sim_stations.specs.Fates.{before_stop}
use Rattle.sim_stations.specs.Stations.{Represents, RunsAs, ComesTo, Undergoes}

module _ (owner : Owner) (input : Input) (first : ℕ) (old : OpenSite MemoryCell)
    (before run_state : RunState) (told after : Told)
    (closes : (s : SiteState) → Represents owner before s
    → Represents owner run_state (goes_down owner.site s None []).site)
    (notice : after.notice ≡ Some (GoesDown owner.site))
    (sends : after.sends.items ≡ take first told.sends.items) where
  -- of an outcome: the site is down, with the same records, and the first of the sends went out
  stops : (o : SiteOutcome) (s : SiteState) (kept : Option Record)
      → s.records ++ option_to_list kept ≡ o.site.records
      → ComesTo owner before told o
      → ComesTo owner run_state after (goes_down owner.site s kept (take first o.sends))
  stops o s kept same comes = record {
    stands = rw same (rw (append-nil o.site.records) at (closes o.site comes.stands));
    sends = rw (sends, ← take-map handed_out first told.sends.items, comes.sends)
        (take-map (datagram owner.members.federation) first o.sends);
    notice = notice;
  }

  -- what comes under one fate comes of what comes under another, whatever the site says
  by_mode : (early late : Fate)
      → ((s : SiteState) (next : Mode) (e : Effect) (commits : Option Record)
      → e.commits ≡ commits
      → ComesTo owner before told (outcome owner.site s next input e commits early)
      → ComesTo owner run_state after (outcome owner.site s next input e commits late))
      → (s : SiteState) (mode : Mode) → RunsAs old s.records mode
      → ComesTo owner before told (step (quorums_of owner.members) owner.site s mode input early)
      → ComesTo owner run_state after (step (quorums_of owner.members) owner.site s mode input late)
  by_mode early late then s (Up volatile) runs =
      let e = effect_of (quorums_of owner.members) owner.site s.records volatile input in
      then s (Up e.volatile) e e.commits refl
  by_mode early late then s NeedsOpening runs =
      then s NeedsOpening (refuses faults.NeedsOpen new_volatile) None refl
  by_mode early late then s Down runs = absurd runs

  -- what comes of a call that is done, and of the stop after it
  pub stops_after : Undergoes owner input fates.Whole (Running old) before told
      → Undergoes owner input (fates.StopsAfter first) (Running old) run_state after
  unfolding outcome
  stops_after comes s stands =
      by_mode fates.Whole (fates.StopsAfter first) whole_stops s s.mode stands.1 (comes s stands)
    where
      whole_stops : (s : SiteState) (next : Mode) (e : Effect) (commits : Option Record)
          → e.commits ≡ commits
          → ComesTo owner before told (outcome owner.site s next input e commits fates.Whole)
          → ComesTo owner run_state after
          (outcome owner.site s next input e commits (fates.StopsAfter first))
      whole_stops s next e commits is comes =
          stops (outcome owner.site s next input e commits fates.Whole) s commits (rw is) comes

  -- what comes of a call in which a device call fails, and of the stop there
  pub stops_in : first ≡ 0 → (device : DeviceCall) (kept : ℕ)
      → Undergoes owner input (fates.FailsIn device kept) (Running old) before told
      → Undergoes owner input (fates.StopsIn device kept) (Running old) run_state after
  unfolding outcome
  stops_in none device kept comes s stands =
      by_mode (fates.FailsIn device kept) (fates.StopsIn device kept) failed_stops s s.mode stands.1
      (comes s stands)
    where
      failed_stops : (s : SiteState) (next : Mode) (e : Effect) (commits : Option Record)
          → e.commits ≡ commits
          → ComesTo owner before told
          (outcome owner.site s next input e commits (fates.FailsIn device kept))
          → ComesTo owner run_state after
          (outcome owner.site s next input e commits (fates.StopsIn device kept))
      failed_stops s next e None is comes = rw none
          at (stops (outcome owner.site s next input e None (fates.FailsIn device kept)) s None
          (rw is) comes)
      failed_stops s next e (Some r) is comes = rw none
          at (stops (outcome owner.site s next input e (Some r) (fates.FailsIn device kept)) s
          (kept_record kept r) refl comes)

-- a site that doesn't stop goes on, or its device has failed
pub goes_on : (owner : Owner) (input : Input) (fate : Fate) (site : OpenSite MemoryCell)
    (new : RunState) (told : Told)
    → (fate ≡ fates.Whole) ⊎ ((device : DeviceCall) × (k : ℕ) × (fate ≡ fates.FailsIn device k))
    → Undergoes owner input (before_stop fate) (Running site) new told
    → Undergoes owner input fate (Running site) new told
goes_on owner input fate site new told (inl is) comes = rw is (rw is at comes)
goes_on owner input fate site new told (inr (device, k, is)) comes = rw is (rw is at comes)
