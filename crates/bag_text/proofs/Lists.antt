-- Facts about lists, tests and options that several proofs need.
use Rattle.std.proofs.Common.{◌≡◌, ℕ, suc, ◌+◌, ◌≤◌, Bool, true, false, cond, not, List}
use Rattle.std.proofs.Common.{◌∷◌, length, Option, Some, None, refl}
use Rattle.std.proofs.Common.{arith, inl, inr}
use Rattle.std.specs.List.{prefix_len, position}
use Rattle.std.proofs.lemmas.Bool.{cases_lt, lt-ltb}

-- where none passes, no place is found
pub position-none : (p : ℕ → Bool) (xs : List ℕ) → position p xs ≡ None
    → length xs ≤ prefix_len (λ x. not (p x)) xs
position-none p xs h =
    let n = prefix_len (λ x. not (p x)) xs in
    elim (cases_lt n (length xs)) [
      | inl found ↦ absurd (cc (rw (lt-ltb n (length xs) found) at h))
      | inr none ↦ none
    ]

-- the first of a list of which none passes doesn't, and none of the others
pub prefix_len-full : (p : ℕ → Bool) (x : ℕ) (xs : List ℕ)
    → suc (length xs) ≤ prefix_len (λ y. not (p y)) (x ∷ xs) → (p x ≡ false)
    × (length xs ≤ prefix_len (λ y. not (p y)) xs)
prefix_len-full p x xs h = go (p x) h
  where
    go : (t : Bool) → suc (length xs) ≤ cond (not t) (1 + prefix_len (λ y. not (p y)) xs) 0
        → (t ≡ false) × (length xs ≤ prefix_len (λ y. not (p y)) xs)
    go true k = absurd (omega arith)
    go false k = (refl, omega arith)

-- what is no value is none
pub none-from_not : {A : Type 0} (o : Option A) → ((x : A) → o ≡ Some x → ⊥) → o ≡ None
none-from_not (Some x) h = absurd (h x refl)
none-from_not None h = refl

-- what is found where a test allows it
pub cond_found : {A : Type 0} (t : Bool) (o : Option A) (x : A) → cond t o None ≡ Some x
    → (t ≡ true) × (o ≡ Some x)
cond_found true o x h = (refl, h)
cond_found false o x h = absurd cc
