-- The fuse under which a call of a station is made.
use Rattle.std.specs.Prelude.{ℕ}
use Rattle.cell_device.specs.declared.fuse.Fuse.{Fuse}
use Rattle.cell_device.specs.declared.fuse.How.{How}
use Rattle.schedule.specs.declared.fate.DeviceCall.{DeviceCall}
use Rattle.schedule.specs.declared.fate.DeviceCall.TheVariants.{Append, Sync}

-- which call of a commit it is
abbrev pub call_number : DeviceCall → ℕ
call_number Append = 1
call_number Sync = 2

-- the fuse for this device call of the next commit, which keeps `kept` bytes
abbrev pub fuse_in : DeviceCall → How → (kept : ℕ) → Fuse
fuse_in device how kept = record { call = call_number device; how = how; kept = kept }
