-- The first of some elements.
use Rattle.std.proofs.Common.{◌≡◌, ◌≤◌, ℕ, zero, suc, ◌-◌, List, [], ◌∷◌, ◌++◌, length, take, ap}
use Rattle.std.proofs.Common.{arith, length-take}
use Rattle.std.proofs.Math.Nat.{sub-zero, suc-sub-suc}
use Rattle.std.proofs.Math.Seq.{take-nil}

module _ {X : Type 0} where
  -- the first of these, and then of those
  pub take_both : (n : ℕ) (xs ys : List X)
      → take n (xs ++ ys) ≡ take n xs ++ take (n - length xs) ys
  take_both n [] ys = rw (take-nil n, sub-zero n)
  take_both zero (x ∷ xs) ys = grind arith
  take_both (suc n) (x ∷ xs) ys = rw (take_both n xs ys, suc-sub-suc n (length xs))

  -- if the first so many are all, there are no more
  pub all_within : (n : ℕ) (xs : List X) → take n xs ≡ xs → length xs ≤ n
  all_within n xs is = omega (arith, length-take n xs, ap length is)
