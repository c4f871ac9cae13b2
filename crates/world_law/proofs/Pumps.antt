-- Which datagram's number a turn of a pump names: the least that nothing has named. Where every
-- number is named a pump does nothing, however many turns it has.
use Rattle.std.proofs.Common.{ℕ, zero, suc, ◌≡◌, ◌<◌, ◌≤◌, ◌⊎◌, inl, inr, Bool, true, false, not}
use Rattle.std.proofs.Common.{refl, sym, ap, ◌∙◌, [], ◌∷◌, length, None, Some, arith}
use Rattle.std.specs.List.{find}
use Rattle.std.proofs.lemmas.List.Folds.{find-append}
use Rattle.fed_types.specs.Lists.{is_in}
use Rattle.world_law.specs.Worlds.{World, numbers_to, next_unnamed, on_turn, pumped}

-- ---- the least number that passes a test

none_passes : (p : ℕ → Bool) (n : ℕ) → ((j : ℕ) → 1 ≤ j → j ≤ n → p j ≡ false)
    → find p (numbers_to n) ≡ None
unfolding numbers_to
none_passes p zero h = refl
none_passes p (suc n) h =
    let before = none_passes p n (λ j a b. h j a (omega arith)) in
    let last = h (suc n) (omega arith) (omega arith) in
    find-append p (numbers_to n) (suc n ∷ []) ∙ rw (before, last) refl

up_to : (k n : ℕ) → k ≤ suc n → (k ≤ n) ⊎ (k ≡ suc n)
up_to k n b = grind arith

least_passes : (p : ℕ → Bool) (k n : ℕ) → 1 ≤ k → k ≤ n → p k ≡ true
    → ((j : ℕ) → 1 ≤ j → j < k → p j ≡ false) → find p (numbers_to n) ≡ Some k
unfolding numbers_to
least_passes p k zero a b e h = absurd (omega arith)
least_passes p k (suc n) a b e h =
    find-append p (numbers_to n) (suc n ∷ [])
    ∙ elim (up_to k n b) [
      | inl less ↦ let before = least_passes p k n a less e h in rw before refl
      | inr same ↦
          let before = none_passes p n (λ j c d. h j c (omega arith)) in
          let last : p (suc n) ≡ true = rw same at e in
          rw (before, last) (ap Some (sym same))
    ]

-- ---- what a turn names

pub next_is : (w : World) (k : ℕ) → 1 ≤ k → k ≤ length w.network.sent
    → is_in w.named k ≡ false → ((j : ℕ) → 1 ≤ j → j < k → is_in w.named j ≡ true)
    → next_unnamed w ≡ Some k
next_is w k a b free h =
    least_passes (λ j. not (is_in w.named j)) k (length w.network.sent) a b (ap not free)
    (λ j c d. ap not (h j c d))

pub none_is : (w : World)
    → ((j : ℕ) → 1 ≤ j → j ≤ length w.network.sent → is_in w.named j ≡ true)
    → next_unnamed w ≡ None
none_is w h =
    none_passes (λ j. not (is_in w.named j)) (length w.network.sent) (λ j a b. ap not (h j a b))

-- ---- a pump without a number left

pub idle_pump : (w : World) (number turns : ℕ) → next_unnamed w ≡ None → pumped w number turns ≡ w
unfolding pumped on_turn
idle_pump w number zero none = refl
idle_pump w number (suc turns) none = rw none (idle_pump w number turns none)
