-- Steps of a sum over the sites 1 to n.
use Rattle.std.specs.Prelude.{◌≡◌, ◌≢◌, ℕ, zero, suc, ◌+◌, ◌*◌, ◌<◌, ◌≤◌, Bool, true, false, cond}
use Rattle.std.specs.Prelude.{[], ◌∷◌, ◌++◌, refl}
use Rattle.std.specs.List.{filter, sum_by}
use Rattle.std.proofs.Common.{arith, inl, inr, append-nil}
use Rattle.std.proofs.lemmas.Bool.{cases_eq, cond_both}
use Rattle.std.proofs.lemmas.List.Elements.{filter-append}
use Rattle.std.proofs.lemmas.List.Sums.{sum_by_push}
use Rattle.fed_types.specs.Sites.{sites_to}

-- the sum over those sites that pass a test
abbrev pub among : (ℕ → ℕ) → (ℕ → Bool) → ℕ → ℕ
among f p n = sum_by f (filter p (sites_to n))

-- no sites, no sum
among_none : (f : ℕ → ℕ) (p : ℕ → Bool) → among f p 0 ≡ 0
unfolding sites_to
among_none f p = refl

-- one site more counts where it passes
pub among_next : (f : ℕ → ℕ) (p : ℕ → Bool) (n : ℕ)
    → among f p (suc n) ≡ among f p n + cond (p (suc n)) (f (suc n)) 0
unfolding sites_to
among_next f p n = rw (filter-append p (sites_to n) (suc n ∷ [])) (go (p (suc n)))
  where
    go : (t : Bool) → sum_by f (filter p (sites_to n) ++ cond t (suc n ∷ []) [])
        ≡ among f p n + cond t (f (suc n)) 0
    go true = sum_by_push f (filter p (sites_to n)) (suc n)
    go false = rw append-nil (omega arith)

-- the same of them pass
pub among_same : (f : ℕ → ℕ) (p q : ℕ → Bool) (n : ℕ)
    → ((i : ℕ) → 1 ≤ i → i ≤ n → p i ≡ q i) → among f p n ≡ among f q n
among_same f p q zero same = omega (arith, among_none f p, among_none f q)
among_same f p q (suc n) same =
    let before = among_same f p q n (λ i low l. same i low (omega arith)) in
    rw (among_next f p n, among_next f q n, same (suc n) (omega arith) (omega arith)) (omega arith)

-- none of them passes
pub among_nobody : (f : ℕ → ℕ) (p : ℕ → Bool) (n : ℕ) → ((i : ℕ) → p i ≡ false)
    → among f p n ≡ 0
among_nobody f p zero nobody = among_none f p
among_nobody f p (suc n) nobody =
    rw (among_next f p n, nobody (suc n)) (omega (arith, among_nobody f p n nobody))

-- site k passes one test and not the other, and on all others the tests agree; it may be none of
-- the sites 1 to n, and then it counts nothing
pub among_without : (f : ℕ → ℕ) (p q : ℕ → Bool) (k n : ℕ) → 1 ≤ k
    → p k ≡ true → q k ≡ false → ((i : ℕ) → i ≤ n → i ≢ k → q i ≡ p i)
    → (n < k → f k ≡ 0) → among f p n ≡ f k + among f q n
among_without f p q k zero low passes fails others beyond =
    omega (arith, among_none f p, among_none f q, beyond (omega arith))
among_without f p q k (suc n) low passes fails others beyond =
    elim (cases_eq k (suc n)) [
      | inl same ↦
          let before = among_same f q p n (λ i one l. others i (omega arith) (λ e. omega arith)) in
          rw (among_next f p n, among_next f q n, ← same, passes, fails) (omega arith)
      | inr differ ↦
          let before = among_without f p q k n low passes fails
          (λ i l. others i (omega arith)) (λ l. beyond (omega arith)) in
          rw (among_next f p n, among_next f q n, others (suc n) (omega arith) (λ e. omega arith))
          (omega arith)
    ]

-- each counts m at most
pub among_most : (f : ℕ → ℕ) (p : ℕ → Bool) (m n : ℕ) → ((i : ℕ) → f i ≤ m)
    → among f p n ≤ m * n
among_most f p m zero most = omega (arith, among_none f p)
among_most f p m (suc n) most =
    let before = among_most f p m n most in
    let here = cond_both (p (suc n)) (f (suc n)) 0 (λ w. w ≤ m) (λ e. most (suc n))
    (λ e. omega arith) in
    omega (arith, among_next f p n)
