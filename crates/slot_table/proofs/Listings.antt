-- The slots that are listed are those that have a row, after a row was put.
use Rattle.std.proofs.Common.{◌≡◌, Bool, true, false, cond, ◌||◌, List, [], ◌∷◌, ◌++◌}
use Rattle.std.proofs.Common.{Some, is_some, Result, Ok, Err, OnOk, OnErr, refl, sym, ap, subst}
use Rattle.std.proofs.Common.{◌∙◌}
use Rattle.std.proofs.lemmas.List.Folds.{list_any-append}
use Rattle.std.proofs.Math.Bool.{or-false}
use Rattle.std.specs.List.{list_any}
use Rattle.fed_types.specs.Laws.Slots.{same_slot_decides, same_slot_equivalence}
use Rattle.fed_types.specs.Slots.{SlotName, same_slot}
use Rattle.slot_table.specs.Listings.{AreListed}
use Rattle.slot_table.specs.Rows.{Rows, row_at, IsWith}

or_true : (b : Bool) → true ≡ (b || true)
or_true true = refl
or_true false = refl

module _ {R : Type 0} (slots : List SlotName) (old new : Rows R) (slot : SlotName) (row : R)
    (all : AreListed slots old) (put : IsWith old new slot row) where
  -- where the slot was there, the list is the same
  pub still_listed : is_some (row_at old slot) ≡ true → AreListed slots new
  still_listed there s = ap is_some (put s) ∙ go (same_slot slot s) refl
    where
      go : (t : Bool) → same_slot slot s ≡ t
          → is_some (cond t (Some row) (row_at old s)) ≡ list_any (same_slot s) slots
      go true e =
          sym there ∙ all slot
          ∙ ap (λ (same : SlotName → Bool). list_any same slots)
          (ap same_slot ((same_slot_decides slot s).0 e))
      go false e = all s

  -- and else the slot goes to the end
  pub newly_listed : AreListed (slots ++ slot ∷ []) new
  newly_listed s =
      ap is_some (put s) ∙ go (same_slot slot s) refl
      ∙ sym (list_any-append (same_slot s) slots (slot ∷ []))
    where
      go : (t : Bool) → same_slot slot s ≡ t
          → is_some (cond t (Some row) (row_at old s))
          ≡ (list_any (same_slot s) slots || list_any (same_slot s) (slot ∷ []))
      go true e =
          or_true (list_any (same_slot s) slots)
          ∙ ap (λ (b : Bool). list_any (same_slot s) slots || (b || false))
          (sym (same_slot_equivalence.symm s slot ∙ e))
      go false e =
          all s ∙ sym (or-false (list_any (same_slot s) slots))
          ∙ ap (λ (b : Bool). list_any (same_slot s) slots || (b || false))
          (sym (same_slot_equivalence.symm s slot ∙ e))

-- the list is the same too where there was no memory to put the row
pub still_listed_after : {R X E : Type 0} (r : Result X E) (slots : List SlotName)
    (old new : Rows R) (slot : SlotName) (row : R) → AreListed slots old
    → is_some (row_at old slot) ≡ true → OnOk r (IsWith old new slot row)
    → OnErr r (new ≡ old) → AreListed slots new
still_listed_after (Ok x) slots old new slot row all there put same =
    still_listed slots old new slot row all put there
still_listed_after {R} (Err e) slots old new slot row all there put same =
    subst (λ (rows : Rows R). AreListed slots rows) (sym same) all
