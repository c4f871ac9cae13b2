-- The first line of a text, and the lines after it.
use Rattle.std.proofs.Common.{◌≡◌, ℕ, ◌+◌, ◌<◌, Bool, false, eqb, List, [], ◌∷◌, length, take, drop}
use Rattle.std.proofs.Common.{Some, None, refl, inl, inr, arith}
use Rattle.std.specs.List.{slice_split, position, position_or_len, before_first, after_first}
use Rattle.std.specs.Str.Lines.{lines, lines_of_parts, strip_carriage_return}
use Rattle.std.proofs.lemmas.Bool.{ne_eqb, cases_lt, lt-ltb, ltb-true}
use Rattle.std.proofs.lemmas.Option.{cond_some}
use Rattle.std.proofs.lemmas.List.Elements.{All-from_get_or}
use Rattle.std.proofs.lemmas.List.Splits.{slice_split_none, slice_split_first, length-slice_split}
use Rattle.std.proofs.lemmas.List.Sums.{fails_before_first}

-- LF
abbrev pub ends_line : ℕ → Bool
ends_line b = eqb b 10

-- a part that another one follows is a line
pub lines_of_more_parts : (part : List ℕ) (parts : List (List ℕ)) → 0 < length parts
    → lines_of_parts (part ∷ parts) ≡ strip_carriage_return part ∷ lines_of_parts parts
lines_of_more_parts part [] h = absurd (omega arith)
lines_of_more_parts part (next ∷ more) h = refl

-- a line that LF ends
pub lines_before_end : (text : List ℕ) (end : ℕ) → position ends_line text ≡ Some end
    → lines text ≡ strip_carriage_return (take end text) ∷ lines (drop (end + 1) text)
lines_before_end text end found =
    let at = cond_some _ (position_or_len ends_line text) end found in
    let within = ltb-true (position_or_len ends_line text) (length text) at.0 in
    let behind = slice_split ends_line (after_first ends_line text) in
    rw (← at.1, slice_split_first ends_line text 0 within)
    (lines_of_more_parts (before_first ends_line text) behind
    (omega (arith, length-slice_split ends_line (after_first ends_line text))))

-- a last line that no LF ends
pub lines_without_end : (text : List ℕ) → position ends_line text ≡ None → 0 < length text
    → lines text ≡ text ∷ []
lines_without_end text found h =
    elim (cases_lt (position_or_len ends_line text) (length text)) [
      | inl within ↦
          absurd (cc (rw (lt-ltb (position_or_len ends_line text) (length text) within) at found))
      | inr beyond ↦
          let fails =
          All-from_get_or (λ x. ends_line x ≡ false) text 0
          (λ k lt. fails_before_first ends_line text k 0 (omega arith)) in
          rw (slice_split_none ends_line text fails, ne_eqb (length text) 0 (λ e. omega arith)) refl
    ]
