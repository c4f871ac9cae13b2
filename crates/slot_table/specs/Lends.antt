-- What a table becomes when a borrow of one row ends.
use Rattle.std.specs.Prelude.{◌≡◌, Option, Some, IsSome}
use Rattle.std.specs.Borrow.{Fml, RattleType, MutBor, LendsSo}
use Rattle.fed_types.specs.Slots.{SlotName}
use Rattle.slot_table.specs.Rows.{Rows, row_at, IsWith}
use Rattle.slot_table.specs.contracts.slot_table.SlotTable.{the_row}

-- the slot has the row that was written last, and all others are as they were; and if that is the
-- row that it had, the table is as it was
abbrev pub IsWritten : {R : Type 0} → (old new : Rows R) → SlotName → R → Type 0
IsWritten old new slot written =
    (IsSome (row_at old slot) → IsWith old new slot written)
    × (row_at old slot ≡ Some written → new ≡ old)

-- the slot has the row that was written last; or it has none, and the table is as it was
abbrev pub lends_row :
    (R : RattleType) → MutBor (Rows R.Denot) → SlotName → Option (MutBor R.Denot) → Fml
lends_row R table slot row =
    LendsSo (the_row R) R table row (λ new written. IsWritten table.now new slot written)
    (λ new. new ≡ table.now)
