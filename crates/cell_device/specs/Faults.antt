-- The error codes of the faults.
use Rattle.std.specs.Prelude.{ℕ}
use Rattle.cell_device.specs.declared.fault.CellFault.{CellFault}
use Rattle.cell_device.specs.declared.fault.CellFault.TheVariants.{Device, Memory}

-- the error code of a fault
abbrev pub fault_number : CellFault → ℕ
fault_number Device = 1
fault_number Memory = 2
