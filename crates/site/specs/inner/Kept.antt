-- The site's deposits, as they are kept.
use Rattle.std.specs.Prelude.{◌≡◌, ℕ, Option, None}
use Rattle.fed_types.specs.declared.bag_id.BagId.{BagId}
use Rattle.fed_types.specs.Slots.{SlotName}
use Rattle.slot_table.specs.Rows.{Rows, row_at, row_of}

-- the slots that have a deposit, with it, and room for how many more; and the same by slot, where
-- other slots may have an empty row
pub record Kept : Type 0 where
  pub bags : Rows BagId
  pub room : ℕ
  pub by_slot : Rows (Option BagId)

-- both say the same of each slot
abbrev pub AreSame : Rows BagId → Rows (Option BagId) → Type 0
AreSame in_order by_slot =
    (slot : SlotName) → row_of None by_slot slot ≡ row_at in_order slot
