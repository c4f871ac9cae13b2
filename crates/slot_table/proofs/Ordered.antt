-- What an ordered map says of its rows is what the table says of them.
use Rattle.std.proofs.Common.{◌≡◌, ap, subst, cond, Bool, Some}
use Rattle.std.specs.Map.{lookup}
use Rattle.std.specs.Ordering.{eq_by_cmp}
use Rattle.fed_types.specs.Laws.Slots.{same_by_order}
use Rattle.fed_types.specs.Slots.{SlotName, slot_cmp}
use Rattle.slot_table.specs.Rows.{Rows, row_at, IsWith}

module _ {R : Type 0} where
  -- a look-up
  pub row_by_order : (rows : Rows R) (slot : SlotName)
      → lookup (eq_by_cmp slot_cmp slot) rows ≡ row_at rows slot
  row_by_order rows slot =
      ap (λ (same : SlotName → SlotName → Bool). lookup (same slot) rows) same_by_order

  -- a change of one row
  pub with_by_order : (old new : Rows R) (slot : SlotName) (row : R)
      → ((s : SlotName) → lookup (eq_by_cmp slot_cmp s) new
      ≡ cond (eq_by_cmp slot_cmp slot s) (Some row) (lookup (eq_by_cmp slot_cmp s) old))
      → IsWith old new slot row
  with_by_order old new slot row =
      subst (λ (same : SlotName → SlotName → Bool).
      (s : SlotName) → lookup (same s) new
      ≡ cond (same slot s) (Some row) (lookup (same s) old)) same_by_order
