-- The rows of a table, by slot.
use Rattle.std.specs.Prelude.{◌≡◌, List, Option, Some, None, IsSome, if◌then◌else◌}
use Rattle.std.specs.Map.{lookup}
use Rattle.fed_types.specs.Slots.{SlotName, same_slot}

-- the slots that have a row, and their rows
abbrev pub Rows : Type 0 → Type 0
Rows R = List (SlotName × R)

-- the slot's row, if it has one
abbrev pub row_at : {R : Type 0} → Rows R → SlotName → Option R
row_at rows slot = lookup (same_slot slot) rows

-- the row, or the empty one where there is none
abbrev pub row_or : {R : Type 0} → (empty : R) → Option R → R
row_or empty None = empty
row_or empty (Some row) = row

-- what a table knows of a slot; of a slot without a row it knows what the empty row says
abbrev pub row_of : {R : Type 0} → (empty : R) → Rows R → SlotName → R
row_of empty rows slot = row_or empty (row_at rows slot)

-- one slot's row is this one now, and all others are as they were
abbrev pub IsWith : {R : Type 0} → (old new : Rows R) → SlotName → R → Type 0
IsWith old new slot row =
    (s : SlotName) → row_at new s ≡ (if same_slot slot s then Some row else row_at old s)

-- a slot that had a row has one
abbrev pub HasRooms : {R : Type 0} → (old new : Rows R) → Type 0
HasRooms old new = (s : SlotName) → IsSome (row_at old s) → IsSome (row_at new s)

-- no row is another
abbrev pub HasSameRows : {R : Type 0} → (old new : Rows R) → Type 0
HasSameRows old new = (s : SlotName) → row_at new s ≡ row_at old s

-- one slot has a row now, the empty one if it had none, and all others are as they were
abbrev pub HasRoomFor : {R : Type 0} → (empty : R) → (old new : Rows R) → SlotName → Type 0
HasRoomFor empty old new slot = IsWith old new slot (row_of empty old slot)
