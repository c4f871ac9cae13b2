-- What a file of the system is, and what the calls make of it. Each call may fail. After a failed
-- append, cut or sync neither a read nor a sync says anything, until the file was cut to what every
-- crash keeps, and that is synced: the system says only once that it couldn't write.
use Rattle.std.specs.Prelude.{◌≡◌, ℕ, List, length, Option, None, Result, Ok, Err, option_map}
use Rattle.std.specs.Option.{ForSome}
use Rattle.cell_device.specs.Images.{Image, MayLeave, keeps}
use Rattle.cell_device.specs.Images.{all_synced, same_image, after_failure}
use Rattle.cell_device.specs.Time.{Elapses}
use Rattle.cell_device.specs.Devices.{Device}
use Rattle.cell_device.specs.declared.fault.CellFault.{CellFault}
use Rattle.cell_device.specs.declared.fault.CellFault.TheVariants as faults
use Rattle.cell_device.specs.declared.fault.FileFault.{FileFault}
use Rattle.cell_device.specs.declared.fault.FileFault.TheVariants as file_faults
use Rattle.cell_device.specs.declared.trust.Trust.{Trust}
use Rattle.cell_device.specs.declared.trust.Trust.TheVariants.{Sound, Spoilt, Mending}

-- its bytes, if they are known; whether its calls can be believed; the moment; and what a crash at
-- some moment from that one on may have left
pub record FileState : Type 1 where
  pub image : Option Image
  pub trust : Trust
  pub moment : ℕ
  pub left_since : ℕ → List ℕ → Type 0

-- a read gives n bytes, where they are known
abbrev pub HasLength : ℕ → Option Image → Type 0
HasLength n image = ForSome image (λ i. n ≡ length i.seen)

-- every crash keeps at least this many of the first bytes, whatever fails
abbrev pub sure_of : Image → ℕ
sure_of i = length (keeps 0 i.synced i.newest)

abbrev pub IsSure : ℕ → Option Image → Type 0
IsSure n image = ForSome image (λ i. n ≡ sure_of i)

-- ---- what a call does

-- the same bytes at the same moment
pub record IsSame (old new : FileState) : Type 0 where
  pub image : new.image ≡ old.image
  pub moment : new.moment ≡ old.moment
  pub nothing_else : (t : ℕ) (c : List ℕ) → new.left_since t c → old.left_since t c
  pub nothing_less : (t : ℕ) (c : List ℕ) → old.left_since t c → new.left_since t c

-- the same, and now it can be believed so far
pub record IsStill (trust : Trust) (old new : FileState) : Type 0 where
  pub same : IsSame old new
  pub trust_is : new.trust ≡ trust

-- the bytes have changed, and time has gone on
pub record IsChanged (what : Image → Image) (trust : Trust) (old new : FileState) : Type 0 where
  pub image : new.image ≡ option_map what old.image
  pub time : Elapses old.moment new.moment old.left_since new.left_since (MayLeave new.image)
  pub trust_is : new.trust ≡ trust

-- what was tried failed: a crash may leave any part of it, and a read, once the file was cut back,
-- gives what every crash keeps
abbrev pub spoilt : (Image → Image) → Image → Image
spoilt tried i = after_failure 0 (tried i)

-- an append or a cut; where memory is refused nothing is tried
abbrev pub Changes : {T : Type 0} → (Image → Image) → (old new : FileState) → Result T CellFault
    → Type 0
Changes done old new (Ok x) = IsChanged done Sound old new
Changes done old new (Err faults.Memory) = IsChanged same_image Sound old new
Changes done old new (Err faults.Device) = IsChanged (spoilt done) Spoilt old new

-- nobody else cuts a file whose bytes are known
abbrev pub IsCutByOthers : (old new : FileState) → Type 0
IsCutByOthers old new = IsStill Spoilt old new × (old.image ≡ None)

-- a sync; where the path leads elsewhere, it says nothing of the file
abbrev pub Syncs : {T : Type 0} → (old new : FileState) → Result T FileFault → Type 0
Syncs old new (Ok x) = IsChanged all_synced Sound old new
Syncs old new (Err file_faults.Device) = IsChanged (spoilt same_image) Spoilt old new
Syncs old new (Err file_faults.Elsewhere) = IsStill Spoilt old new
Syncs old new (Err file_faults.Shorter) = IsCutByOthers old new

-- the cutting back of a file that can't be believed
abbrev pub CutsBack : {T : Type 0} → (old new : FileState) → Result T FileFault → Type 0
CutsBack old new (Ok x) = IsStill Mending old new
CutsBack old new (Err file_faults.Device) = IsStill Spoilt old new
CutsBack old new (Err file_faults.Elsewhere) = IsStill Spoilt old new
CutsBack old new (Err file_faults.Shorter) = IsCutByOthers old new

-- ---- the cell in it

-- the device on which a cell in a file lies: no fuse of it is known
abbrev pub device_over : FileState → (failures : ℕ) → Device
device_over file failures = record {
  image = file.image;
  fuse = None;
  moment = file.moment;
  left_since = file.left_since;
  failures = failures;
}
