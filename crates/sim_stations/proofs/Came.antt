-- What comes of a call that a site made, whatever its fuse: it was done, or its device has failed.
use Rattle.std.specs.Prelude.{◌≡◌, ◌⊎◌, true, false, List, [], ◌++◌, map}
use Rattle.std.specs.Prelude.{Option, Some, None, IsSome, Result, Ok, Err}
use Rattle.std.specs.Option.{option_to_list}
use Rattle.std.proofs.Common.{append-nil, inl, inr, refl, sym, ◌∙◌}
use Rattle.cell_device.specs.declared.fuse.FuseState.{FuseState}
use Rattle.cell_device.specs.declared.memory_cell.MemoryCell.{MemoryCell}
use Rattle.cell_device.specs.Fuses.{next_fuse}
use Rattle.cell_device.specs.Memory.{fuse_of, device_of, IsSameMedium}
use Rattle.records.specs.declared.owner.Owner.{Owner}
use Rattle.records.specs.declared.record.Record.{Record}
use Rattle.book.specs.Committed.{fires_within_two, read_after_fuse}
use Rattle.proposer.specs.VolatileStates.{VolatileState}
use Rattle.site.specs.declared.answer.Answer.{Answer}
use Rattle.site.specs.declared.fault.SiteFault.{SiteFault}
use Rattle.site.specs.declared.fault.SiteFault.TheVariants as faults
use Rattle.site.specs.Answered as answered
use Rattle.site.specs.Answered.{IsAnswered}
use Rattle.site.specs.Calls.{Input}
use Rattle.site.specs.Datagrams.{handed_out, datagram}
use Rattle.site.specs.Effects.{Effect, refuses}
use Rattle.site.specs.Sites as sites
use Rattle.site.specs.Sites.{OpenSite}
use Rattle.lines.specs.declared.notice.Notice.TheVariants.{Refused}
use Rattle.lines.specs.Notices.{notice_of}
use Rattle.sim_stations.specs.declared.told.Told.{Told}
use Rattle.sim_stations.specs.Stations.{Keeps}
use Rattle.sim_stations.specs.Told.{Tells}
use Rattle.sim_stations.proofs.Refusals.{RefusesOnly}

-- the fuse after a call that was done: with a record it has not fired
abbrev pub FuseAfter : Option Record → (before after : FuseState) → Type 0
FuseAfter None before after = after ≡ before
FuseAfter (Some r) before after =
    (fires_within_two before ≡ false) × (after ≡ next_fuse (next_fuse before))

-- the call was done: the site has its record and its volatile state, and this was told
pub record Done (old new : OpenSite MemoryCell) (input : Input) (told : Told) (e : Effect) : Type 0
  where
    pub records : new.book.records ≡ old.book.records ++ option_to_list e.commits
    pub opened : new.book.needs_opening ≡ false
    pub whose : new.book.owner ≡ old.book.owner
    pub volatile : sites.Represents new e.volatile
    pub sends : map handed_out told.sends.items
        ≡ map (datagram old.book.owner.members.federation) e.sends
    pub notice : told.notice ≡ notice_of old.book.owner.site input e.says

-- the device has failed, and keeps these records
pub record Failed (old new : OpenSite MemoryCell) (told : Told) (kept : List Record) : Type 0 where
  pub failed : new.book.needs_opening ≡ true
  pub whose : new.book.owner ≡ old.book.owner
  pub records : Keeps old.book.owner new.book.cell kept
  pub sends : told.sends.items ≡ []
  pub notice : told.notice ≡ Some (Refused old.book.owner.site faults.Device)

-- it fails in the commit of a record alone, and only by the fuse
pub record FailedIn (commits : Option Record) (before : FuseState) (old new : OpenSite MemoryCell)
    (told : Told) : Type 0 where
  pub r : Record
  pub of : commits ≡ Some r
  pub fires : fires_within_two before ≡ true
  pub failed : Failed old new told (read_after_fuse before old.book.records r)

-- one of the two, by the fuse before the call and after it
abbrev pub Came : (before after : FuseState) → (old new : OpenSite MemoryCell) → Input → Told
    → Effect
    → Type 0
Came before after old new input told e =
    (Done old new input told e × FuseAfter e.commits before after)
    ⊎ FailedIn e.commits before old new told

module _ (old new : OpenSite MemoryCell) (input : Input) (told : Told)
    (volatile : VolatileState) where
  -- what came of an effect
  abbrev CameOf : Effect → Type 0
  CameOf = Came (fuse_of old.book.cell) (fuse_of new.book.cell) old new input told

  refused : (e : Effect) (fault : SiteFault) → RefusesOnly volatile e
      → old.book.needs_opening ≡ false
      → answered.Keeps device_of e.commits (Err fault) old.book new.book
      → Tells old.book.owner.site input (Err fault) told
      → (e.says ≡ Err fault) × sites.Represents new volatile → CameOf e
  refused e fault only opened keeps tells gives = rw is (inl (
    record {
      records = rw same (sym (append-nil old.book.records));
      opened = rw same opened;
      whose = rw same;
      volatile = gives.1;
      sends = rw tells.2 refl;
      notice = tells.1;
    },
    rw same,
  ))
    where
      is : e ≡ refuses fault volatile
      is = only fault gives.0

      same : new.book ≡ old.book
      same = rw is at keeps

  device : (commits : Option Record) → IsSome commits
      → answered.Keeps device_of commits (Err faults.Device) old.book new.book
      → Tells old.book.owner.site input (Err faults.Device) told
      → FailedIn commits (fuse_of old.book.cell) old new told
  device None some keeps tells = absurd (cc some)
  device (Some r) some (inl (is, same)) tells = absurd (cc is)
  device (Some r) some (inr c) tells =
      let fuse = c.fuse (fuse_of old.book.cell) refl in
      record {
        r = r;
        of = refl;
        fires = fuse.0;
        failed = record {
          failed = (c.device_failed refl).1;
          whose = c.whose;
          records = fuse.2;
          sends = tells.2;
          notice = tells.1;
        };
      }

  -- the records with the new one, if there is one
  done : (answer : Answer) (commits : Option Record)
      → answered.Keeps device_of commits (Ok answer) old.book new.book
      → old.book.needs_opening ≡ false
      → (new.book.records ≡ old.book.records ++ option_to_list commits)
      × (new.book.needs_opening ≡ false) × (new.book.owner ≡ old.book.owner)
      × FuseAfter commits (fuse_of old.book.cell) (fuse_of new.book.cell)
  done answer None same opened = (
    rw same (sym (append-nil old.book.records)),
    rw same opened,
    rw same,
    rw same,
  )
  done answer (Some r) (inl (is, same)) opened = absurd (cc is)
  done answer (Some r) (inr c) opened =
      let fuse = c.fuse (fuse_of old.book.cell) refl in
      (c.committed.0, c.committed.1, c.whose, (fuse.0, cc fuse.1))

  -- what a call of a site that needs no opening comes to
  pub came : (e : Effect) (result : Result Answer SiteFault) → RefusesOnly volatile e
      → old.book.needs_opening ≡ false → IsAnswered device_of old new volatile e result
      → Tells old.book.owner.site input result told → CameOf e
  came e (Ok answer) only opened a tells =
      let is = done answer e.commits a.keeps opened in
      inl (
        record {
          records = is.0;
          opened = is.1;
          whose = is.2;
          volatile = a.gives.2;
          sends = rw tells.1 a.gives.1;
          notice = rw (tells.0, a.gives.0) refl;
        },
        is.3,
      )
  came e (Err faults.Memory) only opened a tells = absurd (tells.0 refl)
  came e (Err faults.Device) only opened a tells = inr (device e.commits a.gives a.keeps tells)
  came e (Err faults.NeedsOpen) only opened a tells = absurd a.gives
  came e (Err _) only opened a tells = refused e _ only opened a.keeps tells a.gives

-- ---- a fuse that is set, and taken away

-- the sites differ at most in the fuse of their cells
pub record DiffersByFuse (a b : OpenSite MemoryCell) : Type 0 where
  pub records : b.book.records ≡ a.book.records
  pub opened : b.book.needs_opening ≡ a.book.needs_opening
  pub whose : b.book.owner ≡ a.book.owner
  pub tables : b.tables ≡ a.tables
  pub medium : IsSameMedium a.book.cell b.book.cell

pub with_fuse : {a b : OpenSite MemoryCell} → IsSameMedium a.book.cell b.book.cell
    → (b.book.records ≡ a.book.records) × (b.book.needs_opening ≡ a.book.needs_opening)
    × (b.book.owner ≡ a.book.owner) → b.tables ≡ a.tables → DiffersByFuse a b
with_fuse medium book tables = record {
  records = book.0;
  opened = book.1;
  whose = book.2;
  tables = tables;
  medium = medium;
}

-- they represent the same
pub same_volatile : {a b : OpenSite MemoryCell} → DiffersByFuse a b → (volatile : VolatileState)
    → sites.Represents a volatile → sites.Represents b volatile
same_volatile d volatile s = (s.0, rw (d.tables, d.records) s.1)

-- what came of the call with the fuse came of it with the fuse set before and taken away after
pub came_between : {a b c d : OpenSite MemoryCell} (input : Owner → Input) (told : Told)
    → DiffersByFuse a b → DiffersByFuse c d → (e : Effect) (before after : FuseState)
    → Came before after b c (input b.book.owner) told e
    → Came before after a d (input a.book.owner) told e
came_between input told front back e before after (inl (is, fuse)) = inl (
  record {
    records = rw (back.records, is.records, front.records);
    opened = back.opened ∙ is.opened;
    whose = back.whose ∙ is.whose ∙ front.whose;
    volatile = same_volatile back e.volatile is.volatile;
    sends = rw front.whose at is.sends;
    notice = rw front.whose at is.notice;
  },
  fuse,
)
came_between input told front back e before after (inr is) = inr (record {
  r = is.r;
  of = is.of;
  fires = is.fires;
  failed = record {
    failed = back.opened ∙ is.failed.failed;
    whose = back.whose ∙ is.failed.whose ∙ front.whose;
    records = rw back.medium (rw (front.whose, front.records) at is.failed.records);
    sends = is.failed.sends;
    notice = rw front.whose at is.failed.notice;
  };
})
