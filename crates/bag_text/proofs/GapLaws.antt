-- Spaces and tabs between the parts of a line: what comes after them, and what before those at the
-- end.
use Rattle.std.proofs.Common.{◌≡◌, ℕ, Bool, true, false, not, ◌&&◌, eqb, List, [], ◌∷◌}
use Rattle.std.proofs.Common.{◌++◌, Some, refl, ap, arith, ◌⊎◌, inl, inr}
use Rattle.std.specs.Prelude.{IsTrue}
use Rattle.std.specs.List.{list_all}
use Rattle.std.proofs.lemmas.Bool.{and_parts, ne_eqb, not-true, or_from, cond_both}
use Rattle.std.proofs.lemmas.Option.{cond_some}
use Rattle.bag_text.specs.Blanks.{is_blank, IsBlank, IsGap, starts_nonblank}
use Rattle.bag_text.specs.Readers.{skip_blanks, trim_blanks, after_gap}

-- what passes a test that spaces and tabs don't is neither
pub nonblank_by : (p : ℕ → Bool) → p 32 ≡ false → p 9 ≡ false → (byte : ℕ) → p byte ≡ true
    → is_blank byte ≡ false
nonblank_by p space tab byte h =
    or_from (eqb byte 32) (eqb byte 9) (ne_eqb byte 32 (λ e. cc)) (ne_eqb byte 9 (λ e. cc))

-- what was skipped is spaces and tabs, and what is left begins with neither
pub record Skips (text gap left : List ℕ) : Type 0 where
  pub parts : text ≡ gap ++ left
  pub blank : IsBlank gap
  pub stops : (left ≡ []) ⊎ IsTrue (starts_nonblank left)

pub skip_blanks-skips : (text : List ℕ) → (gap : List ℕ) × Skips text gap (skip_blanks text)
unfolding skip_blanks
skip_blanks-skips [] = ([], record { parts = refl; blank = refl; stops = inl refl })
skip_blanks-skips (byte ∷ rest) =
    let ih = skip_blanks-skips rest in
    let longer = ap (λ (r : List ℕ). byte ∷ r) ih.1.parts in
    cond_both (is_blank byte) _ _ (λ (left : List ℕ). (gap : List ℕ) × Skips (byte ∷ rest) gap left)
    (λ e. (byte ∷ ih.0, record { parts = longer; blank = rw e ih.1.blank; stops = ih.1.stops }))
    (λ e. ([], record { parts = refl; blank = refl; stops = inr (ap not e) }))

-- spaces and tabs are skipped up to a byte that is neither
pub skip_blanks-gap : (gap written : List ℕ) → IsBlank gap → IsTrue (starts_nonblank written)
    → skip_blanks (gap ++ written) ≡ written
unfolding skip_blanks
skip_blanks-gap [] [] b s = refl
skip_blanks-gap [] (first ∷ rest) b s = rw (not-true (is_blank first) s) refl
skip_blanks-gap (byte ∷ gap) written b s =
    let p = and_parts (is_blank byte) (list_all is_blank gap) b in
    rw (p.0) (skip_blanks-gap gap written p.1 s)

pub after_gap-gap : (gap following : List ℕ) → IsGap gap → IsTrue (starts_nonblank following)
    → after_gap (gap ++ following) ≡ Some following
after_gap-gap [] following g s = absurd (omega arith)
after_gap-gap (byte ∷ gap) following g s =
    let p = and_parts (is_blank byte) (list_all is_blank gap) g.1 in
    rw (p.0, skip_blanks-gap gap following p.1 s) refl

pub after_gap-some : (rest following : List ℕ) → after_gap rest ≡ Some following → (gap : List ℕ)
    × (rest ≡ gap ++ following) × IsGap gap
    × ((following ≡ []) ⊎ IsTrue (starts_nonblank following))
after_gap-some [] following h = absurd cc
after_gap-some (byte ∷ rest) following h =
    let found = cond_some (is_blank byte) (skip_blanks rest) following h in
    let skipped = skip_blanks-skips rest in
    rw (← found.1) (
      byte ∷ skipped.0,
      ap (λ (r : List ℕ). byte ∷ r) skipped.1.parts,
      (omega arith, rw found.0 skipped.1.blank),
      skipped.1.stops,
    )

-- ---- at the end

-- what is dropped at the end is spaces and tabs
pub trim_blanks-parts : (text : List ℕ) → (ending : List ℕ) × (text ≡ trim_blanks text ++ ending)
    × IsBlank ending
unfolding trim_blanks
trim_blanks-parts [] = ([], refl, refl)
trim_blanks-parts (byte ∷ rest) =
    let ih = trim_blanks-parts rest in
    cond_both (is_blank byte && list_all is_blank rest) _ _
    (λ (kept : List ℕ). (ending : List ℕ) × (byte ∷ rest ≡ kept ++ ending) × IsBlank ending)
    (λ e. (byte ∷ rest, refl, e)) (λ e. (ih.0, ap (λ (r : List ℕ). byte ∷ r) ih.1, ih.2))

-- neither a space nor a tab
abbrev pub is_nonblank : ℕ → Bool
is_nonblank byte = not (is_blank byte)

-- a value without spaces and tabs is what is left
pub trim_blanks-value : (value ending : List ℕ) → list_all is_nonblank value ≡ true → IsBlank ending
    → trim_blanks (value ++ ending) ≡ value
unfolding trim_blanks
trim_blanks-value [] [] v e = refl
trim_blanks-value [] (byte ∷ ending) v e = rw e refl
trim_blanks-value (byte ∷ value) ending v e =
    let p = and_parts (is_nonblank byte) (list_all is_nonblank value) v in
    rw (not-true (is_blank byte) p.0, trim_blanks-value value ending p.1 e) refl
