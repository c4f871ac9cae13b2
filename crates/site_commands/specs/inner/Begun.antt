-- A cell of no bytes gets a header.
use Rattle.std.specs.Prelude.{◌≡◌, ◌⊎◌, ℕ, List, [], take, Option, None, Some}
use Rattle.cell_device.specs.declared.fault.CellFault.{CellFault}
use Rattle.cell_device.specs.declared.fault.CellFault.TheVariants as cells
use Rattle.cell_device.specs.Images.{Image, IfKnown, Leaves, at_rest}
use Rattle.site_commands.specs.declared.first_start.Unprepared.{Unprepared}
use Rattle.site_commands.specs.declared.first_start.Unprepared.TheVariants as unprepared

-- what a fault of the cell is to a start
abbrev pub unprepared_by : CellFault → Unprepared
unprepared_by cells.Device = unprepared.Device
unprepared_by cells.Memory = unprepared.Memory

-- a read gives no bytes
abbrev pub HasNone : Option Image → Type 0
HasNone image = IfKnown image (λ i. i.seen ≡ [])

-- and all are synced
abbrev pub RestsAtNone : Option Image → Type 0
RestsAtNone image = IfKnown image (λ i. i ≡ at_rest [])

-- the cell, whose bytes were known before, rests at the header
abbrev pub RestsAtAll : (header : List ℕ) → (old new : Option Image) → Type 0
RestsAtAll header None new = new ≡ None
RestsAtAll header (Some i) new = new ≡ Some (at_rest header)

-- a crash leaves what it might have left before, or the first bytes of the header
abbrev pub LeavesHeader : (header : List ℕ) → Option Image → List ℕ → Type 0
LeavesHeader header old bytes =
    IfKnown old (λ i. Leaves i bytes ⊎ ((k : ℕ) × (bytes ≡ take k header)))
