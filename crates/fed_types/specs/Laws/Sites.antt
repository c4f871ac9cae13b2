-- The sites 1 to k.
use Rattle.std.specs.Prelude.{◌≡◌, ℕ, zero, suc, ◌≤◌, [], ◌∷◌, nat_le}
use Rattle.std.proofs.Common.{sym, inl, inr, arith}
use Rattle.std.proofs.lemmas.Bool.{leb-true, le-leb, cases_eq}
use Rattle.std.proofs.lemmas.Bool.Decides.{same_from_decides, Decides-like}
use Rattle.fed_types.specs.Lists.{Has, here, is_in}
use Rattle.fed_types.specs.Sites.{sites_to}
use Rattle.fed_types.specs.Laws.Lists.{is_in_decides, has_none, has_one}
use Rattle.fed_types.specs.Laws.Lists.{has_left, has_right, has_cases}

-- what is one of them is from 1 to k
pub has_sites_to : (k n : ℕ) → Has n (sites_to k) → (1 ≤ n) × (n ≤ k)
unfolding sites_to
has_sites_to zero n h = absurd (has_none h)
has_sites_to (suc k) n h =
    elim (has_cases (sites_to k) (suc k ∷ []) h) [
      | inl p ↦ let within = has_sites_to k n p in (within.0, omega arith)
      | inr p ↦ let same = has_one p in (omega arith, omega arith)
    ]

-- each number from 1 to k is one of them
pub sites_to_has : (k n : ℕ) → 1 ≤ n → n ≤ k → Has n (sites_to k)
unfolding sites_to
sites_to_has zero n low high = absurd (omega arith)
sites_to_has (suc k) n low high =
    elim (cases_eq n (suc k)) [
      | inl same ↦ has_right (sites_to k) (here (sym same))
      | inr differ ↦ has_left (suc k ∷ []) (sites_to_has k n low (omega arith))
    ]

-- the test of a member
pub is_in-sites_to : (k n : ℕ) → 1 ≤ n → is_in (sites_to k) n ≡ nat_le n k
is_in-sites_to k n low =
    let member = Decides-like {P = Has n (sites_to k)} {Q = n ≤ k} (is_in (sites_to k) n)
    (λ h. (has_sites_to k n h).1) (λ h. sites_to_has k n low h) (is_in_decides (sites_to k) n) in
    same_from_decides (is_in (sites_to k) n) (nat_le n k) member (leb-true n k, le-leb n k)
