-- What a cell is after calls, where its fuse is known.
use Rattle.std.specs.Prelude.{◌≡◌, ℕ, List, if◌then◌else◌, Option, Some, option_map}
use Rattle.cell_device.specs.declared.fuse.FuseState.{FuseState}
use Rattle.cell_device.specs.Images.{Image, with_bytes, all_synced, same_image}
use Rattle.cell_device.specs.Devices.{Device}
use Rattle.cell_device.specs.Fuses.{fires, next_fuse, next_image}
use Rattle.cell_device.specs.Calls.{one_more}

-- its bytes, if they are known, how the calls to come will end, and how often it has failed
pub record CellState : Type 0 where
  pub image : Option Image
  pub fuse : FuseState
  pub failures : ℕ

-- the state of a device that has this fuse
abbrev pub state_of : Device → FuseState → CellState
state_of d f = record { image = d.image; fuse = f; failures = d.failures }

-- the device is in this state
pub record IsIn (s : CellState) (d : Device) : Type 0 where
  pub image : d.image ≡ s.image
  pub fuse : d.fuse ≡ Some s.fuse
  pub failures : d.failures ≡ s.failures

-- after one call that tries one thing and does another, and isn't refused for memory
unfoldable pub after_call : (tried done : Image → Image) → CellState → CellState
after_call tried done s = record {
  image = option_map (next_image s.fuse tried done) s.image;
  fuse = next_fuse s.fuse;
  failures = if fires s.fuse then one_more s.failures else s.failures;
}

-- after an append of these bytes
abbrev pub after_append : List ℕ → CellState → CellState
after_append bytes = after_call (with_bytes bytes) (with_bytes bytes)

-- after a sync
abbrev pub after_sync : CellState → CellState
after_sync = after_call same_image all_synced
