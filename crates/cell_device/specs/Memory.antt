-- What is known of a cell in memory, and of a file in memory: everything.
use Rattle.std.specs.Prelude.{◌≡◌, ℕ, List, Option, Some, None}
use Rattle.cell_device.specs.declared.fuse.Fuse.{Fuse}
use Rattle.cell_device.specs.declared.fuse.FuseState.{FuseState}
use Rattle.cell_device.specs.declared.fuse.FuseState.TheVariants.{Clear, Burning, Stopped}
use Rattle.cell_device.specs.declared.memory_cell.MemoryCell.{MemoryCell}
use Rattle.cell_device.specs.declared.memory_file.MemoryFile.{MemoryFile}
use Rattle.cell_device.specs.Images.{Image}
use Rattle.cell_device.specs.Devices.{Device}
use Rattle.cell_device.specs.Files.{FileState}
use Rattle.cell_device.specs.inner.Mediums.{medium_image, moment, left_since}

-- its bytes: the synced ones, the newest, and what a read gives
abbrev pub image_of : MemoryCell → Image
image_of cell = medium_image cell.medium

-- what becomes of the calls to come
abbrev pub fuse_of : MemoryCell → FuseState
fuse_of cell = cell.fuse

-- how often a call has failed
abbrev pub failures_of : MemoryCell → ℕ
failures_of cell = cell.failures

-- the moment
abbrev pub moment_of : MemoryCell → ℕ
moment_of cell = moment cell.medium

-- what a crash since that moment may have left
abbrev pub left_since_of : MemoryCell → ℕ → List ℕ → Type 0
left_since_of cell = left_since cell.medium

-- everything except the fuse and the count of the failures
abbrev pub IsSameMedium : MemoryCell → MemoryCell → Type 0
IsSameMedium old new = new.medium ≡ old.medium

-- the fuse after one is set, or taken away; a stopped cell stays stopped
abbrev pub fuse_after_set : Option Fuse → FuseState → FuseState
fuse_after_set fuse Stopped = Stopped
fuse_after_set None f = Clear
fuse_after_set (Some fuse) f = Burning fuse

-- everything that is known of its device
abbrev pub device_of : MemoryCell → Device
device_of cell = record {
  image = Some (image_of cell);
  fuse = Some (fuse_of cell);
  moment = moment_of cell;
  left_since = left_since_of cell;
  failures = failures_of cell;
}

-- everything that is known of a file
abbrev pub file_state : MemoryFile → FileState
file_state file = record {
  image = Some (medium_image file.medium);
  trust = file.trust;
  moment = moment file.medium;
  left_since = left_since file.medium;
}
