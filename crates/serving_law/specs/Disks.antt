-- A disk of which all is known. No call of it fails.
use Rattle.std.specs.Prelude.{◌≡◌, ◌≤◌, ℕ, zero, suc, List, [], ◌++◌, length, take, Some, None}
use Rattle.cell_device.specs.Devices.{Device}
use Rattle.cell_device.specs.Images.{Image, Leaves, MayLeave, at_rest}
use Rattle.records.specs.declared.layout.Layout.TheVariants.{Second}
use Rattle.records.specs.declared.owner.Owner.{Owner}
use Rattle.records.specs.declared.record.Record.{Record}
use Rattle.records.specs.Layout.{header_bytes, all_encoded}

-- a new one; or one with the journal of this site, with these records
pub data Disk : Type 0 where
  Blank : Disk
  Holds : Owner → List Record → Disk

abbrev pub journal : Owner → List Record → List ℕ
journal owner records = header_bytes owner ++ all_encoded Second records

-- At first it was new; then its journal was begun; then each record was added, in a moment of its
-- own. So this is the moment now,
abbrev pub moment_of : Disk → ℕ
moment_of Blank = 0
moment_of (Holds owner records) = suc (length records)

-- and these bytes were there at a moment
abbrev pub bytes_at : Disk → ℕ → List ℕ
bytes_at disk zero = []
bytes_at Blank (suc moment) = []
bytes_at (Holds owner records) (suc moment) = journal owner (take moment records)

abbrev pub bytes_on : Disk → List ℕ
bytes_on Blank = []
bytes_on (Holds owner records) = journal owner records

-- what a crash since a moment may have left: what was there then, or later
abbrev pub left_on : Disk → (since : ℕ) → List ℕ → Type 0
left_on disk since bytes =
    (moment : ℕ) × (since ≤ moment) × (moment ≤ moment_of disk)
    × (bytes ≡ bytes_at disk moment)

abbrev pub device : Disk → Device
device disk = record {
  image = Some (at_rest (bytes_on disk));
  fuse = None;
  moment = moment_of disk;
  left_since = left_on disk;
  failures = 0;
}

-- What every cell keeps, this disk does: a read gives what a crash now may leave; this moment is
-- one of those since an earlier one; and since now there is no other.
pub record AreLikeCells : Type 0 where
  pub seen_now : (disk : Disk) (i : Image) → (device disk).image ≡ Some i → Leaves i i.seen
  pub counts_now : (disk : Disk) (t : ℕ) (bytes : List ℕ) → t ≤ moment_of disk
      → MayLeave (device disk).image bytes → (device disk).left_since t bytes
  pub only_now : (disk : Disk) (bytes : List ℕ)
      → (device disk).left_since (device disk).moment bytes → MayLeave (device disk).image bytes
