-- A call after which the site runs: it was done, or the site's device has failed.
use Rattle.std.specs.Prelude.{◌≡◌, ◌↔◌, ℕ, true, false, List, Option, Some, None}
use Rattle.std.specs.Prelude.{Result, Err, IsErrOf}
use Rattle.std.proofs.Common.{append-nil, inl, inr, refl, subst, ◌∙◌}
use Rattle.fed_types.specs.Quorums.{quorums_of}
use Rattle.cell_device.specs.declared.fuse.FuseState.{FuseState}
use Rattle.cell_device.specs.declared.fuse.FuseState.TheVariants.{Clear, Burning}
use Rattle.cell_device.specs.declared.fuse.How.{How}
use Rattle.cell_device.specs.declared.memory_cell.MemoryCell.{MemoryCell}
use Rattle.cell_device.specs.Memory.{fuse_of, fuse_after_set, device_of}
use Rattle.records.specs.declared.owner.Owner.{Owner}
use Rattle.records.specs.declared.record.Record.{Record}
use Rattle.book.specs.Committed.{fires_within_two}
use Rattle.proposer.specs.VolatileStates.{VolatileState, new_volatile}
use Rattle.schedule.specs.declared.fate.DeviceCall.{DeviceCall}
use Rattle.schedule.specs.declared.fate.DeviceCall.TheVariants.{Append, Sync}
use Rattle.schedule.specs.declared.fate.Fate.{Fate}
use Rattle.schedule.specs.declared.fate.Fate.TheVariants as fates
use Rattle.site.specs.declared.answer.Answer.{Answer}
use Rattle.site.specs.declared.fault.SiteFault.{SiteFault}
use Rattle.site.specs.declared.fault.SiteFault.TheVariants as faults
use Rattle.site.specs.Answered.{IsAnswered}
use Rattle.site.specs.Calls.{Input, effect_of}
use Rattle.site.specs.Effects.{Effect, refuses}
use Rattle.site.specs.Sites as sites
use Rattle.site.specs.Sites.{OpenSite, effect}
use Rattle.world_law.specs.Networks as networks
use Rattle.world_law.specs.Networks.{Mode, Up, Down, NeedsOpening, SiteState, outcome}
use Rattle.sim_stations.specs.declared.run_state.RunState.TheVariants.{Running}
use Rattle.sim_stations.specs.declared.told.Told.{Told}
use Rattle.sim_stations.specs.Fuses.{fuse_in}
use Rattle.sim_stations.specs.Stations.{IsUp, NeedsToOpen, Represents, ComesTo, Undergoes}
use Rattle.sim_stations.specs.Told.{Tells}
use Rattle.sim_stations.proofs.Came.{Done, FuseAfter, Came, DiffersByFuse, came, came_between}
use Rattle.sim_stations.proofs.Came.{same_volatile}
use Rattle.sim_stations.proofs.Refusals.{refuses_only}

-- a state of a site
abbrev pub state : List Record → Mode → SiteState
state records mode = record { records = records; mode = mode }

-- no fuse is set by a call
still_clear : (commits : Option Record) {before after : FuseState} → before ≡ Clear
    → FuseAfter commits before after → after ≡ Clear
still_clear None clear same = same ∙ clear
still_clear (Some r) clear fuse = rw (fuse.1, clear)

-- with a fuse a commit is not done
fires : (device : DeviceCall) (how : How) (kept : ℕ)
    → fires_within_two (Burning (fuse_in device how kept)) ≡ true
fires Append how kept = refl
fires Sync how kept = refl

-- a call, with a fuse that is set before it, and taken away after
pub record IsCalled (old armed called new : OpenSite MemoryCell) (input : Owner → Input)
    (told : Told)
    (result : Result Answer SiteFault)
    : Type 0 where
  pub front : DiffersByFuse old armed
  pub back : DiffersByFuse called new
  pub answer : armed.book.needs_opening ≡ false → (volatile : VolatileState)
      → sites.Represents armed volatile
      → IsAnswered device_of armed called volatile
      (effect armed volatile (input armed.book.owner)) result
  pub needs : IsErrOf result faults.NeedsOpen ↔ (armed.book.needs_opening ≡ true)
  pub untouched : armed.book.needs_opening ≡ true → called ≡ armed
  pub tells : Tells old.book.owner.site (input old.book.owner) result told

module _ (old armed called new : OpenSite MemoryCell) (input : Owner → Input) (told : Told)
    (result : Result Answer SiteFault) (k : IsCalled old armed called new input told result)
    (records : List Record) where
  -- the owner of the old site
  abbrev owner : Owner
  owner = old.book.owner

  -- what a site says in a volatile state, by the owner and the records of the old one
  abbrev says : VolatileState → Effect
  says volatile = effect_of (quorums_of owner.members) owner.site records volatile (input owner)

  -- what is to be shown, in a mode and under a fate
  abbrev Comes : Mode → Fate → Type 0
  Comes mode fate = ComesTo owner (Running new) told
      (networks.step (quorums_of owner.members) owner.site (state records mode) mode (input owner)
      fate)

  came_up : (volatile : VolatileState) → IsUp old records volatile
      → Came (fuse_of armed.book.cell) (fuse_of called.book.cell) old new (input owner) told
      (says volatile)
  came_up volatile up =
      let opened = k.front.opened ∙ up.opened in
      let same : effect armed volatile (input armed.book.owner) ≡ says volatile =
      rw (k.front.whose, k.front.records, up.records) refl in
      came_between input told k.front k.back (says volatile) (fuse_of armed.book.cell)
      (fuse_of called.book.cell)
      (came armed called (input armed.book.owner) told volatile (says volatile) result
      (refuses_only (quorums_of owner.members) owner.site records volatile (input owner)) opened
      (subst (λ (e : Effect). IsAnswered device_of armed called volatile e result) same
      (k.answer opened volatile (same_volatile k.front volatile up.volatile)))
      (rw k.front.whose k.tells))

  done_goes_on : (mode : Mode) (e : Effect) → old.book.records ≡ records
      → Done old new (input owner) told e → fuse_of new.book.cell ≡ Clear
      → ComesTo owner (Running new) told
      (networks.goes_on owner.site (state records mode) (Up e.volatile) (input owner) e)
  done_goes_on mode e had is clear = record {
    stands = (
      is.whose,
      record {
        opened = is.opened;
        records = rw (is.records, had);
        volatile = is.volatile;
        clear = clear;
      },
    );
    sends = is.sends;
    notice = is.notice;
  }

  refuses_open : NeedsToOpen old records
      → ComesTo owner (Running new) told
      (networks.goes_on owner.site (state records NeedsOpening) NeedsOpening (input owner)
      (refuses faults.NeedsOpen new_volatile))
  refuses_open n =
      let failed : armed.book.needs_opening ≡ true = k.front.opened ∙ n.failed in
      let back = rw (k.untouched failed) at k.back in
      let so : Tells owner.site (input owner) (Err faults.NeedsOpen) told =
      rw (k.needs.1 failed) at k.tells in
      let whose : new.book.owner ≡ owner = back.whose ∙ k.front.whose in
      record {
        stands = (
          whose,
          record {
            failed = back.opened ∙ failed;
            records = rw (append-nil records, whose, back.medium, k.front.medium) n.records;
          },
        );
        sends = rw so.2 refl;
        notice = so.1;
      }

  -- without a fuse it was done
  whole_as : (mode : Mode)
      → (fuse_of old.book.cell ≡ Clear → fuse_of armed.book.cell ≡ Clear)
      → fuse_of called.book.cell ≡ fuse_of new.book.cell
      → Represents owner (Running old) (state records mode) → Comes mode fates.Whole
  unfolding outcome
  whole_as (Up volatile) clear same (whose, up) = elim (came_up volatile up) [
    | inl (done, fuse) ↦
        done_goes_on (Up volatile) (says volatile) up.records done
        (rw (← same) (still_clear (says volatile).commits (clear up.clear) fuse))
    | inr failed ↦ absurd (cc (rw (clear up.clear) at failed.fires))
  ]
  whole_as NeedsOpening clear same (whose, n) = refuses_open n
  whole_as Down clear same (whose, down) = absurd down

  module _ (device : DeviceCall) (how : How) (kept : ℕ)
      (taken : fuse_of new.book.cell ≡ fuse_after_set None (fuse_of called.book.cell)) where
    -- with the fuse a record's commit failed, and what has no record was done
    fails_of : (mode : Mode) (e : Effect) (commits : Option Record) → e.commits ≡ commits
        → old.book.records ≡ records
        → fuse_of armed.book.cell ≡ Burning (fuse_in device how kept)
        → Came (fuse_of armed.book.cell) (fuse_of called.book.cell) old new (input owner) told e
        → ComesTo owner (Running new) told
        (outcome owner.site (state records mode) (Up e.volatile) (input owner) e commits
        (fates.FailsIn device kept))
    unfolding outcome
    fails_of mode e None is had burning (inl (done, fuse)) =
        done_goes_on mode e had done (rw (taken, rw is at fuse, burning))
    fails_of mode e None is had burning (inr failed) = absurd (cc failed.of)
    fails_of mode e (Some r) is had burning (inl (done, fuse)) =
        absurd (cc ((rw is at fuse).0, fires device how kept))
    fails_of mode e (Some r) is had burning (inr failed) =
        let same : failed.r ≡ r = cc failed.of in
        let it = rw (burning, had, same) at failed.failed in
        record {
          stands = (
            it.whose,
            record {
              failed = it.failed;
              records = rw it.whose it.records;
            },
          );
          sends = rw it.sends refl;
          notice = it.notice;
        }

    fails_as : (mode : Mode)
        → (fuse_of old.book.cell ≡ Clear
        → fuse_of armed.book.cell ≡ Burning (fuse_in device how kept))
        → Represents owner (Running old) (state records mode)
        → Comes mode (fates.FailsIn device kept)
    unfolding outcome
    fails_as (Up volatile) burning (whose, up) =
        fails_of (Up volatile) (says volatile) _ refl up.records (burning up.clear)
        (came_up volatile up)
    fails_as NeedsOpening burning (whose, n) = refuses_open n
    fails_as Down burning (whose, down) = absurd down

-- the call is done, and the site goes on
pub goes_on : (old new : OpenSite MemoryCell) (input : Owner → Input) (told : Told)
    (result : Result Answer SiteFault) → IsCalled old old new new input told result
    → Undergoes old.book.owner (input old.book.owner) fates.Whole (Running old) (Running new) told
goes_on old new input told result k s stands =
    whole_as old old new new input told result k s.records s.mode (λ clear. clear) refl stands

-- a device call fails where the call commits a record
pub fails_in : (old armed called new : OpenSite MemoryCell) (device : DeviceCall) (how : How)
    (kept : ℕ) (input : Owner → Input) (told : Told) (result : Result Answer SiteFault)
    → fuse_of armed.book.cell
    ≡ fuse_after_set (Some (fuse_in device how kept)) (fuse_of old.book.cell)
    → fuse_of new.book.cell ≡ fuse_after_set None (fuse_of called.book.cell)
    → IsCalled old armed called new input told result
    → Undergoes old.book.owner (input old.book.owner) (fates.FailsIn device kept) (Running old)
    (Running new) told
fails_in old armed called new device how kept input told result set taken k s stands =
    fails_as old armed called new input told result k s.records device how kept taken s.mode
    (λ clear. rw (set, clear)) stands
