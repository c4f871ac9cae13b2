-- A batch: a book whose newest records wait, and a cell that holds the others. The records of a
-- batch are appended together, and synced once.
use Rattle.std.specs.Prelude.{◌≡◌, ◌≢◌, ◌≤◌, ◌-◌, ℕ, Bool, true, false, List, [], ◌∷◌, ◌++◌}
use Rattle.std.specs.Prelude.{length, take, drop, nat_le, None, Some, Result, Ok, Err, OnOk}
use Rattle.std.specs.Prelude.{IsErrOf, if◌then◌else◌}
use Rattle.std.specs.List.{flat_map}
use Rattle.cell_device.specs.declared.fuse.FuseState.{FuseState}
use Rattle.cell_device.specs.declared.fuse.FuseState.TheVariants.{Clear, Burning, Stopped}
use Rattle.cell_device.specs.Calls.{HasCause}
use Rattle.cell_device.specs.Devices.{Device}
use Rattle.cell_device.specs.Fuses.{next_fuse}
use Rattle.cell_device.specs.Images.{Image, IfKnown, at_rest, with_bytes}
use Rattle.cell_device.specs.States.{CellState, IsIn, state_of}
use Rattle.cell_device.specs.Time.{LeavesOnly}
use Rattle.records.specs.declared.owner.Owner.{Owner}
use Rattle.records.specs.declared.record.Record.{Record}
use Rattle.records.specs.Journals.{DecodesTo}
use Rattle.records.specs.Layout.{record_bytes}
use Rattle.records.specs.Records.{AreRecords}
use Rattle.records.specs.Texts.{IsTextOf}
use Rattle.book.specs.declared.fault.CommitFault.{CommitFault}
use Rattle.book.specs.declared.fault.CommitFault.TheVariants as faults
use Rattle.book.specs.Committed.{IsUnchanged, CommitOutcome, CameOut, fires_within_two}
use Rattle.book.specs.Committed.{after_append_and_sync}
use Rattle.book.specs.OpenBooks.{OpenBook, LeavesText, RecoversTo, HoldsText}

-- ---- the two parts of a batch

-- what is known of the cell of a book whose records wait: it keeps nothing, and no call fails
abbrev pub keeps_nothing : Device
keeps_nothing = record {
  image = None;
  fuse = Some Clear;
  moment = 0;
  left_since = λ t c. Unit {0};
  failures = 0;
}

-- the cell of a batch; how many of the first records it holds, all of them synced; and whether the
-- batch needs opening
pub record BatchCell (C : Type 0) : Type 0 where
  pub cell : C
  pub synced : ℕ
  pub needs_opening : Bool

-- the cell holds a text of the first records of this book, unless the batch needs opening
pub record HoldsFirst {C W : Type 0} (device : C → Device) (s : BatchCell C) (book : OpenBook W)
    : Type 0 where
  pub within : s.synced ≤ length book.records
  pub text : s.needs_opening ≡ false
      → HoldsText book.owner (take s.synced book.records) (device s.cell).image

-- the records that wait
abbrev pub waiting : {C W : Type 0} → BatchCell C → OpenBook W → List Record
waiting s book = drop s.synced book.records

-- the book of the synced records
abbrev pub synced_book : {C W : Type 0} → BatchCell C → OpenBook W → OpenBook C
synced_book s book = record {
  cell = s.cell;
  records = take s.synced book.records;
  needs_opening = s.needs_opening;
  owner = book.owner;
}

-- ---- what a crash leaves

-- the bytes of records, one after another
abbrev pub all_bytes : List Record → List ℕ
all_bytes records = flat_map record_bytes records

-- the records that are in the first k of these bytes from their first byte to their last
unfoldable pub in_first : ℕ → List Record → List Record
in_first k [] = []
in_first k (r ∷ rs) =
    if nat_le (length (record_bytes r)) k
    then r ∷ in_first (k - length (record_bytes r)) rs
    else []

-- the bytes say the records, and the first n of the new ones
abbrev pub SaysFirst : Owner → (records new : List Record) → List ℕ → Type 0
SaysFirst owner records new bytes = (n : ℕ) × DecodesTo owner bytes (Ok (records ++ take n new))

-- the image after an append of each record, in order, with no sync since
unfoldable pub with_records : List Record → Image → Image
with_records [] i = i
with_records (r ∷ rs) i = with_records rs (with_bytes (record_bytes r) i)

-- ---- what a sync answers and leaves

-- the records that a read says after the fuse has fired
abbrev pub read_after_firing : FuseState → (records new : List Record) → List Record
read_after_firing Clear records new = records
read_after_firing (Burning f) records new = records ++ in_first f.kept new
read_after_firing Stopped records new = records

-- how the sync of these records ends by the fuse: there are two calls, as in a commit
abbrev pub sync_outcome : FuseState → (records new : List Record) → CommitOutcome
sync_outcome f records new = record {
  fires = fires_within_two f;
  next_fuse = next_fuse (next_fuse f);
  read_after = read_after_firing f records new;
}

-- the cell after the sync of these records, by its answer
abbrev pub after_syncing : List Record → Result (Unit {0}) CommitFault → CellState → CellState
after_syncing new (Ok x) s = after_append_and_sync (all_bytes new) s
after_syncing new (Err faults.Device) s = after_append_and_sync (all_bytes new) s
after_syncing new (Err faults.Memory) s = s
after_syncing new (Err faults.NeedsOpen) s = s

-- The book of the synced records before and after a sync of those that wait, which answered so:
-- what `Commits` says of one record, said of all of these. After Ok every crash leaves them all. A
-- crash at any moment leaves the records from before, and a prefix of the new ones. If none waits
-- there is no call.
pub record Syncs
    {C : Type 0} (device : C → Device) (old : OpenBook C) (waiting : List Record)
    (result : Result (Unit {0}) CommitFault) (new : OpenBook C)
    : Type 0 where
  pub committed : OnOk result ((new.records ≡ old.records ++ waiting)
      × (new.needs_opening ≡ false))
  pub durable : OnOk result (LeavesText new.owner new.records (device new.cell).image)
  pub recovers : OnOk result (RecoversTo new.owner new.records (device new.cell).image)
  pub device_failed : IsErrOf result faults.Device
      → (new.records ≡ old.records) × (new.needs_opening ≡ true)
  pub memory : IsErrOf result faults.Memory → IsUnchanged device old new
  pub any_moment : LeavesOnly (device old.cell) (device new.cell)
      (λ c. IfKnown (device old.cell).image (λ i. SaysFirst old.owner old.records waiting c))
  pub cause : HasCause faults.Device (device old.cell).failures (device new.cell).failures result
  pub fuse : waiting ≢ [] → (f : FuseState) → (device old.cell).fuse ≡ Some f
      → CameOut (sync_outcome f old.records waiting) old.owner result (device old.cell)
      (device new.cell)
  pub calls : waiting ≢ [] → (f : FuseState) → (device old.cell).fuse ≡ Some f
      → IsIn (after_syncing waiting result (state_of (device old.cell) f)) (device new.cell)
  pub nothing : waiting ≡ [] → (result ≡ Ok tt) × (new ≡ old)
  pub whose : new.owner ≡ old.owner

-- ---- what a reader may count

-- of the records that a reader finds, all but the last n
abbrev pub all_but : ℕ → List Record → List Record
all_but n records = take (length records - n) records

-- the cell of a site that appends at most n records before it syncs, and whose calls haven't failed
-- since it opened the cell
abbrev pub IsInUseBy : ℕ → Owner → Image → Type 0
IsInUseBy n owner i =
    (records : List Record) × (text : List ℕ) × (new : List Record) × IsTextOf owner records text
    × AreRecords new × (length new ≤ n) × (i ≡ with_records new (at_rest text))
