-- Rows that say the same.
use Rattle.std.proofs.Common.{◌≡◌, ℕ, ◌&&◌, Bool, true, false, cond, List, Option, Some, None}
use Rattle.std.proofs.Common.{Result, Ok, Err, refl, sym, ap, subst, ◌∙◌}
use Rattle.std.specs.Prelude.{IfOk, OnErr}
use Rattle.fed_types.specs.declared.bag_id.BagId.{BagId}
use Rattle.fed_types.specs.declared.vote.Vote.{Vote}
use Rattle.fed_types.specs.Slots.{SlotName, same_slot}
use Rattle.fed_types.specs.Laws.Slots.{same_slot_decides}
use Rattle.fed_types.specs.Voters.{with_voter}
use Rattle.dgram.specs.Heard.{same_vote}
use Rattle.slot_table.specs.Rows.{Rows, row_at, row_or, row_of, IsWith}
use Rattle.learner.specs.declared.row.Row.{Row}
use Rattle.learner.specs.declared.row.Row.TheVariants as rows
use Rattle.learner.specs.LearnerStates.{known_in, counted_in}
use Rattle.learner.specs.inner.Counts.{KnowsSame, CountsSame, IsRowCounted, IsCounted, UnlessKnown}

-- the row of a slot of which nothing was heard
abbrev pub unheard : Row
unheard = rows.Unheard

-- what a slot without a row says is what an empty row says
known_or : (found : Option Row) → known_in found ≡ known_in (Some (row_or unheard found))
known_or None = refl
known_or (Some row) = refl

counted_or : (found : Option Row) (vote : Vote)
    → counted_in found vote ≡ counted_in (Some (row_or unheard found)) vote
counted_or None vote = refl
counted_or (Some row) vote = refl

-- so rows that are the same but for empty ones say the same
pub knows_same : (old new : Rows Row)
    → ((s : SlotName) → row_of unheard new s ≡ row_of unheard old s) → KnowsSame old new
knows_same old new same s =
    known_or (row_at new s) ∙ ap (λ (row : Row). known_in (Some row)) (same s)
    ∙ sym (known_or (row_at old s))

pub counts_same : (old new : Rows Row)
    → ((s : SlotName) → row_of unheard new s ≡ row_of unheard old s) → CountsSame old new
counts_same old new same s v =
    counted_or (row_at new s) v ∙ ap (λ (row : Row). counted_in (Some row) v) (same s)
    ∙ sym (counted_or (row_at old s) v)

-- ---- one row is put in place of another

module _ (old new : Rows Row) (slot : SlotName) (before after : Row)
    (put : IsWith old new slot after) (there : row_at old slot ≡ Some before) where
  -- what the words of a row say of a slot's row, whether it is this slot or another
  words_put : {W : Type 0} (word : Option Row → W) (s : SlotName) (new_word : W)
      → (slot ≡ s → word (Some after) ≡ new_word)
      → (same_slot slot s ≡ false → word (row_at old s) ≡ new_word)
      → word (row_at new s) ≡ new_word
  words_put word s new_word same other = ap word (put s) ∙ go (same_slot slot s) refl
    where
      go : (t : Bool) → same_slot slot s ≡ t
          → word (cond t (Some after) (row_at old s)) ≡ new_word
      go true e = same ((same_slot_decides slot s).0 e)
      go false e = other e

  old_row : (s : SlotName) → slot ≡ s → row_at old s ≡ Some before
  old_row s same = ap (row_at old) (sym same) ∙ there

  pub knows_put : known_in (Some after) ≡ known_in (Some before) → KnowsSame old new
  knows_put known s =
      words_put known_in s (known_in (row_at old s))
      (λ same. known ∙ ap known_in (sym (old_row s same))) (λ other. refl)

  pub counts_put : (vote : Vote) (voters : List ℕ) → IsRowCounted before after vote voters
      → IsCounted old new slot vote voters
  counts_put vote voters counted s v =
      words_put (λ found. counted_in found v) s
      (cond (same_slot slot s && same_vote vote v) voters (counted_in (row_at old s) v))
      (λ same. counted v
      ∙ ap (λ (found : Option Row). cond (same_vote vote v) voters (counted_in found v))
      (sym (old_row s same))
      ∙ ap (λ (t : Bool). cond (t && same_vote vote v) voters (counted_in (row_at old s) v))
      (sym ((same_slot_decides slot s).1 same)))
      (λ other. ap (λ (t : Bool). cond (t && same_vote vote v) voters
      (counted_in (row_at old s) v)) (sym other))

  pub counts_kept : after ≡ before → CountsSame old new
  counts_kept is s v =
      words_put (λ found. counted_in found v) s (counted_in (row_at old s) v)
      (λ same. ap (λ (row : Row). counted_in (Some row) v) is
      ∙ ap (λ (found : Option Row). counted_in found v) (sym (old_row s same)))
      (λ other. refl)

  -- what the row counts, the table counts
  pub unless_known_put : (vote : Vote) (from : ℕ) (k : Option BagId) (voters : List ℕ)
      → UnlessKnown k (after ≡ before) (IsRowCounted before after vote voters)
      → UnlessKnown k (CountsSame old new) (IsCounted old new slot vote voters)
  unless_known_put vote from None voters h = counts_put vote voters h
  unless_known_put vote from (Some bag) voters h = counts_kept h

  pub heard_put : {E : Type 0} (vote : Vote) (from : ℕ) (r : Result Bool E)
      → IfOk r (λ learned. learned ≡ false
      → UnlessKnown (known_in (Some before)) (after ≡ before)
      (IsRowCounted before after vote (with_voter (counted_in (Some before) vote) from)))
      → IfOk r (λ learned. learned ≡ false
      → UnlessKnown (known_in (row_at old slot)) (CountsSame old new)
      (IsCounted old new slot vote (with_voter (counted_in (row_at old slot) vote) from)))
  heard_put vote from (Ok learned) h = λ e.
      subst (λ (found : Option Row). UnlessKnown (known_in found) (CountsSame old new)
      (IsCounted old new slot vote (with_voter (counted_in found vote) from))) (sym there)
      (unless_known_put vote from (known_in (Some before))
      (with_voter (counted_in (Some before) vote) from) (h e))
  heard_put vote from (Err x) h = tt

-- what holds, holds of an Err
pub err_of : {T E P : Type 0} (r : Result T E) → P → OnErr r P
err_of (Ok x) p = tt
err_of (Err e) p = p
