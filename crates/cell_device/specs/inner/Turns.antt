-- What the two halves of a call of a cell in memory answer: before it is tried, and after.
use Rattle.std.specs.Prelude.{◌≡◌, true, false, Result, Ok, Err}
use Rattle.cell_device.specs.declared.fault.CellFault.{CellFault}
use Rattle.cell_device.specs.declared.fault.CellFault.TheVariants as faults
use Rattle.cell_device.specs.declared.fuse.FuseState.{FuseState}
use Rattle.cell_device.specs.declared.fuse.FuseState.TheVariants.{Stopped}
use Rattle.cell_device.specs.declared.memory_cell.MemoryCell.{MemoryCell}
use Rattle.cell_device.specs.Fuses.{fires}
use Rattle.cell_device.specs.inner.Mediums.{IsSameTime}

-- a call that was tried answers Device where the fuse fires
abbrev pub Fires : {T : Type 0} → FuseState → Result T CellFault → Type 0
Fires f (Ok x) = fires f ≡ false
Fires f (Err faults.Device) = fires f ≡ true
Fires f (Err faults.Memory) = ⊥

-- a call of a stopped cell answers Device
abbrev pub StopsAt : {T : Type 0} → FuseState → Result T CellFault → Type 0
StopsAt f (Ok x) = f ≡ Stopped → ⊥
StopsAt f (Err faults.Device) = f ≡ Stopped
StopsAt f (Err faults.Memory) = ⊥

-- the moment, and what crashes may have left, are as they were
abbrev pub IsSameMoment : MemoryCell → MemoryCell → Type 0
IsSameMoment old new = IsSameTime old.medium new.medium
