-- One number more is named, or has a mark.
use Rattle.std.proofs.Common.{◌≡◌, ℕ, zero, suc, ◌+◌, ◌<◌, ◌≤◌, Bool, true, false, cond, ◌||◌}
use Rattle.std.proofs.Common.{List, [], ◌∷◌, ◌++◌, length, get_or, eqb, refl, sym, ◌-◌, arith}
use Rattle.std.proofs.Common.{◌≢◌, inl, inr}
use Rattle.std.proofs.Math.Numerals.{sub-one}
use Rattle.std.specs.Prelude.{slice_set, nat_eq}
use Rattle.std.specs.List.{list_any}
use Rattle.std.proofs.Math.Bool.{or_comm, or_assoc}
use Rattle.std.proofs.lemmas.Bool.{cases_Bool}
use Rattle.std.proofs.lemmas.Grind.{get_or-set_at}
use Rattle.std.proofs.lemmas.List.{get_or-set_other, get_or_past}
use Rattle.std.proofs.lemmas.Bool.Decides.{eqb_tells}
use Rattle.fed_types.specs.Lists.{is_in}
use Rattle.fed_types.specs.Laws.Lists.{is_in-append}
use Rattle.sim_stations.specs.DatagramNumbers.{is_marked, is_named, AreNamed}

-- a mark that isn't set names nothing
marked_push : (marks : List Bool) (k : ℕ) → is_marked (marks ++ false ∷ []) k ≡ is_marked marks k
unfolding is_marked
marked_push marks zero = refl
marked_push [] (suc zero) = refl
marked_push [] (suc (suc i)) = refl
marked_push (x ∷ xs) (suc zero) = refl
marked_push (x ∷ xs) (suc (suc i)) = marked_push xs (suc i)

pub named_push : (marks : List Bool) (others : List ℕ) (k : ℕ)
    → is_named (marks ++ false ∷ []) others k ≡ is_named marks others k
unfolding is_named
named_push marks others k = rw (marked_push marks k)

-- a number's mark is set
marked_set : (marks : List Bool) (before j : ℕ) → before < length marks
    → is_marked (slice_set marks before true) j ≡ (eqb (before + 1) j || is_marked marks j)
unfolding is_marked
marked_set marks before zero within = elim (eqb_tells (before + 1) 0) [
  | inl h ↦ absurd (omega (arith, h.1))
  | inr h ↦ rw h.0
]
marked_set marks before (suc j) within = elim (eqb_tells (before + 1) (suc j)) [
  | inl h ↦ rw h.0 (get_or-set_at marks before j true false (omega (arith, h.1)) within)
  | inr h ↦ rw h.0 (get_or-set_other marks before j true false (λ e. h.1 (omega (arith, e))))
]

pub named_mark : (marks : List Bool) (others : List ℕ) (number k : ℕ) → 1 ≤ number
    → number ≤ length marks
    → is_named (slice_set marks (number - 1) true) others k
    ≡ (is_named marks others k || eqb number k)
unfolding is_named
named_mark marks others number k one within =
    let same : number - 1 + 1 ≡ number = omega arith in
    rw (marked_set marks (number - 1) k (omega arith), same)
    (rw (or_comm (eqb number k) (is_marked marks k))
    (sym (or_assoc (list_any (nat_eq k) others) (is_marked marks k) (eqb number k))))

-- a number without a mark is kept
pub named_other : (marks : List Bool) (others new : List ℕ) (number k : ℕ)
    → list_any (nat_eq k) new ≡ cond (nat_eq number k) true (list_any (nat_eq k) others)
    → is_named marks new k ≡ (is_named marks others k || eqb number k)
unfolding is_named
named_other marks others new number k kept =
    let before = list_any (nat_eq k) others || is_marked marks k in
    elim (cases_Bool (eqb number k)) [
      | inl e ↦ rw (kept, e, or_comm before true)
      | inr e ↦ rw (kept, e, or_comm before false)
    ]

-- what was named stays so
pub named_stays : (marks marks_then : List Bool) (others others_then : List ℕ) (number last : ℕ)
    → ((k : ℕ) → is_named marks_then others_then k ≡ (is_named marks others k || eqb number k))
    → AreNamed marks others last → AreNamed marks_then others_then last
named_stays marks marks_then others others_then number last step all k one within =
    rw (step k, all k one within)

-- a number has a mark up to the last one
pub marked_zero : (marks : List Bool) → is_marked marks 0 ≡ false
unfolding is_marked
marked_zero marks = refl

pub marked_past : (marks : List Bool) (number : ℕ) → length marks < number
    → is_marked marks number ≡ false
unfolding is_marked
marked_past marks zero past = refl
marked_past marks (suc before) past = get_or_past marks before false (omega arith)

pub marked_at : (marks : List Bool) (number : ℕ) → number ≢ 0
    → get_or marks (number - 1) false ≡ is_marked marks number
unfolding is_marked
marked_at marks zero one = absurd (one refl)
marked_at marks (suc before) one = rw sub-one

-- at first nothing was named
pub named_nothing : (k : ℕ) → is_named [] [] k ≡ is_in [] k
unfolding is_named is_marked is_in
named_nothing zero = refl
named_nothing (suc before) = refl

-- the numbers that were named, and one more
pub named_more : (named : List ℕ) (number k : ℕ) (old new : Bool) → new ≡ (old || eqb number k)
    → old ≡ is_in named k → new ≡ is_in (named ++ number ∷ []) k
unfolding is_in
named_more named number k old new is stands =
    rw (is, stands, is_in-append named (number ∷ []) k, or_comm (eqb number k) false)
