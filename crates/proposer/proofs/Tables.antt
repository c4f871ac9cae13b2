-- From one slot's row to what is known of every slot.
use Rattle.std.proofs.Common.{◌≡◌, Bool, true, false, cond, refl, ap, ◌∙◌, List, Some, IsSome}
use Rattle.std.specs.Prelude.{None}
use Rattle.fed_types.specs.Slots.{SlotName, same_slot}
use Rattle.fed_types.specs.Laws.Slots.{same_slot_decides}
use Rattle.records.specs.declared.record.Record.{Record}
use Rattle.slot_table.specs.Rows.{Rows, row_at, row_or, IsWith, HasRooms}
use Rattle.proposer.specs.declared.row.Row.{Row}
use Rattle.proposer.specs.VolatileStates.{VolatileState}
use Rattle.proposer.specs.UnderWay.{UnderWay}
use Rattle.proposer.specs.Rows.{Knows, Represents, row_of, empty_row, KnowsSame}
use Rattle.proposer.specs.inner.Rows.{OnlyAt}

-- what is known of a slot, by this row
abbrev pub KnowsAt : List Record → VolatileState → UnderWay → SlotName → Row → Type 0
KnowsAt records volatile under s =
    Knows s records volatile.heard (volatile.current s) (under.begun s) (under.waiting s)

-- one slot's row is this one, and the others are as before
abbrev pub PutsAt : (old new : Rows Row) → SlotName → Row → Type 0
PutsAt old new slot row = (s : SlotName) → row_of new s ≡ cond (same_slot slot s) row (row_of old s)

-- a slot is the same as itself
pub here : (slot : SlotName) → same_slot slot slot ≡ true
here slot = (same_slot_decides slot slot).1 refl

-- the row that was put in
pub row_there : (old new : Rows Row) (slot : SlotName) (row : Row) → PutsAt old new slot row
    → row_of new slot ≡ row
row_there old new slot row puts = rw (puts slot, here slot)

-- a row made of the slot's, put into a table that says the same as another
pub puts_at : (made : Row → Row) (old mid new : Rows Row) (slot : SlotName) → KnowsSame old mid
    → IsWith mid new slot (made (row_of mid slot)) → PutsAt old new slot (made (row_of old slot))
puts_at made old mid new slot same put s =
    rw (← same slot, ← same s) (ap (row_or empty_row) (put s) ∙ go (same_slot slot s))
  where
    go : (t : Bool) → row_or empty_row (cond t (Some (made (row_of mid slot))) (row_at mid s))
        ≡ cond t (made (row_of mid slot)) (row_of mid s)
    go true = refl
    go false = refl

pub only_at : (old new : Rows Row) (slot : SlotName) (row : Row) → PutsAt old new slot row
    → OnlyAt old new slot
only_at old new slot row puts s = rw (row_there old new slot row puts) (puts s)

-- a table that is as it was
stays_only : (old new : Rows Row) (slot : SlotName) → new ≡ old → OnlyAt old new slot
stays_only old new slot e s = rw e (go (same_slot slot s) refl)
  where
    go : (t : Bool) → same_slot slot s ≡ t → row_of old s ≡ cond t (row_of old slot) (row_of old s)
    go true f = rw ((same_slot_decides slot s).0 f)
    go false f = refl

-- what becomes of the slot's row: where the slot has one, another is put in its place
pub row_changed : (Becomes : Row → Row → Type 0) (old new : Rows Row) (slot : SlotName)
    (before after : Row) → Some before ≡ row_at old slot
    → (IsSome (row_at old slot) → IsWith old new slot after) → Becomes before after
    → OnlyAt old new slot × Becomes (row_of old slot) (row_of new slot)
row_changed Becomes old new slot before after is put becomes =
    let puts = puts_at (λ r. after) old old new slot (λ s. refl) (put (rw (← is))) in
    (only_at old new slot after puts, rw (row_there old new slot after puts, ← is) becomes)

-- where it has none, the table is as it was
pub row_stays : (Becomes : Row → Row → Type 0) (old new : Rows Row) (slot : SlotName)
    → None ≡ row_at old slot → new ≡ old → Becomes empty_row empty_row
    → OnlyAt old new slot × Becomes (row_of old slot) (row_of new slot)
row_stays Becomes old new slot is e becomes = (stays_only old new slot e, rw (e, ← is) becomes)

-- what is known of the slot by its new row, and of each other slot by its old one
pub stands_at : (old new : Rows Row) (slot : SlotName) (row : Row) (records : List Record)
    (volatile : VolatileState) (under : UnderWay) → PutsAt old new slot row
    → KnowsAt records volatile under slot row
    → ((s : SlotName) → same_slot slot s ≡ false → KnowsAt records volatile under s (row_of old s))
    → Represents new records volatile under
stands_at old new slot row records volatile under puts at others s =
    rw (puts s) (go (same_slot slot s) refl)
  where
    go : (t : Bool) → same_slot slot s ≡ t
        → KnowsAt records volatile under s (cond t row (row_of old s))
    go true e = rw (← (same_slot_decides slot s).0 e) at
    go false e = others s e

-- a slot that had a row has one after a row is put in
pub rooms_put : (old new : Rows Row) (slot : SlotName) (before after : Row)
    → Some before ≡ row_at old slot → (IsSome (row_at old slot) → IsWith old new slot after)
    → HasRooms old new
rooms_put old new slot before after there put s had =
    rw (put (rw (← there)) s) (go (same_slot slot s))
  where
    go : (t : Bool) → IsSome (cond t (Some after) (row_at old s))
    go true = refl
    go false = had

-- and where the table is as it was
pub rooms_same : (old new : Rows Row) → new ≡ old → HasRooms old new
rooms_same old new same s had = rw same had
