-- What a fuse makes of the calls. A fuse of a cell in memory makes the call to which it counts down
-- fail, and keeps as many as it says of the bytes that no sync has kept. The cell then goes on, or
-- it is stopped: every call fails until it is restarted, and then it reads what the failure has
-- left.
use Rattle.std.specs.Prelude.{◌-◌, Bool, true, false, ◌==◌, if◌then◌else◌}
use Rattle.cell_device.specs.declared.fuse.How.{How}
use Rattle.cell_device.specs.declared.fuse.How.TheVariants as how
use Rattle.cell_device.specs.declared.fuse.FuseState.{FuseState}
use Rattle.cell_device.specs.declared.fuse.FuseState.TheVariants.{Clear, Burning, Stopped}
use Rattle.cell_device.specs.Images.{Image, after_failure}

-- the next call answers Device
abbrev pub fires : FuseState → Bool
fires Clear = false
fires (Burning f) = f.call == 1
fires Stopped = true

-- the fuse after it has fired
abbrev pub fuse_after_firing : How → FuseState
fuse_after_firing how.Fail = Clear
fuse_after_firing how.Stop = Stopped

-- the fuse after the next call
abbrev pub next_fuse : FuseState → FuseState
next_fuse Clear = Clear
next_fuse (Burning f) =
    if f.call == 1
    then fuse_after_firing f.how
    else Burning (record f { call = f.call - 1 })
next_fuse Stopped = Stopped

-- the image after the next call, if it is tried and if it is done; a stopped cell does nothing more
abbrev pub next_image : FuseState → (tried done : Image → Image) → Image → Image
next_image Clear tried done i = done i
next_image (Burning f) tried done i =
    if f.call == 1 then after_failure f.kept (tried i) else done i
next_image Stopped tried done i = i
