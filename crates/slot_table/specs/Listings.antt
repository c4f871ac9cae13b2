-- Rows by slot, and the slots in the order in which they got their first rows.
use Rattle.std.specs.Prelude.{◌≡◌, List, ◌∷◌, [], ◌++◌, is_some, if◌then◌else◌}
use Rattle.std.specs.List.{list_any}
use Rattle.fed_types.specs.Slots.{SlotName, same_slot}
use Rattle.slot_table.specs.Rows.{Rows, row_at}

-- the slots, in order, and their rows
pub record Listing (R : Type 0) : Type 0 where
  pub slots : List SlotName
  pub rows : Rows R

-- a slot goes to the end, unless it is there
abbrev pub listed : List SlotName → SlotName → List SlotName
listed slots slot = if list_any (same_slot slot) slots then slots else slots ++ slot ∷ []

-- the slots are those that have a row
abbrev pub AreListed : {R : Type 0} → List SlotName → Rows R → Type 0
AreListed slots rows =
    (slot : SlotName) → is_some (row_at rows slot) ≡ list_any (same_slot slot) slots
