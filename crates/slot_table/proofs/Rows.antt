-- A row that is put in where there was none.
use Rattle.std.proofs.Common.{
  ◌≡◌,
  Bool,
  true,
  false,
  cond,
  refl,
  sym,
  ap,
  subst,
  ◌∙◌,
  Option,
  None,
  Some,
  IsSome,
  is_some,
  Result,
  Ok,
  Err,
  OnOk,
  OnErr,
}
use Rattle.fed_types.specs.Slots.{SlotName, same_slot}
use Rattle.fed_types.specs.Laws.Slots.{same_slot_decides}
use Rattle.slot_table.specs.Rows.{Rows, row_at, row_or, row_of, IsWith, HasRoomFor}

module _ {R : Type 0} (empty : R) where
  -- what is there is the row
  some_row : (found : Option R) → IsSome found → found ≡ Some (row_or empty found)
  some_row (Some row) there = refl
  some_row None there = absurd (cc there)

  -- a table in which the slot has a row has room for it
  pub has_room : (rows : Rows R) (slot : SlotName) → IsSome (row_at rows slot)
      → HasRoomFor empty rows rows slot
  has_room rows slot there s = go (same_slot slot s) refl
    where
      go : (t : Bool) → same_slot slot s ≡ t → row_at rows s
          ≡ cond t (Some (row_of empty rows slot)) (row_at rows s)
      go true e = ap (row_at rows) (sym ((same_slot_decides slot s).0 e))
          ∙ some_row (row_at rows slot) there
      go false e = refl

  -- a table with room for a slot says the same of each
  pub room_same : (old new : Rows R) (slot : SlotName) → HasRoomFor empty old new slot
      → (s : SlotName) → row_of empty new s ≡ row_of empty old s
  room_same old new slot room s = ap (row_or empty) (room s) ∙ go (same_slot slot s) refl
    where
      go : (t : Bool) → same_slot slot s ≡ t
          → row_or empty (cond t (Some (row_of empty old slot)) (row_at old s)) ≡ row_of empty old s
      go true e = ap (row_of empty old) ((same_slot_decides slot s).0 e)
      go false e = refl

  -- the empty row, put in for a slot without one
  pub put_room : (old new : Rows R) (slot : SlotName) → row_at old slot ≡ None
      → IsWith old new slot empty → HasRoomFor empty old new slot
  put_room old new slot none put s = put s
      ∙ ap (λ (o : Option R). cond (same_slot slot s) (Some (row_or empty o)) (row_at old s))
      (sym none)

  -- what a table says of each slot once the row was put, where there was memory, and else
  pub put_same : {X E : Type 0} (r : Result X E) (old new : Rows R) (slot : SlotName)
      → row_at old slot ≡ None → OnOk r (IsWith old new slot empty) → OnErr r (new ≡ old)
      → (s : SlotName) → row_of empty new s ≡ row_of empty old s
  put_same (Ok x) old new slot none put kept s =
      room_same old new slot (put_room old new slot none put) s
  put_same (Err e) old new slot none put kept s =
      ap (λ (rows : Rows R). row_of empty rows s) kept

  -- a row that was put is there
  pub put_there : {X E : Type 0} (r : Result X E) (old new : Rows R) (slot : SlotName)
      → OnOk r (IsWith old new slot empty) → OnOk r (IsSome (row_at new slot))
  put_there (Ok x) old new slot put =
      subst (λ (o : Option R). IsSome o)
      (sym (put slot ∙ ap (λ (t : Bool). cond t (Some empty) (row_at old slot))
      ((same_slot_decides slot slot).1 refl))) refl
  put_there (Err e) old new slot put = tt

-- what isn't there is nothing
pub none_from : {A : Type 0} (o : Option A) → is_some o ≡ false → o ≡ None
none_from None e = refl
none_from (Some x) e = absurd (cc e)
