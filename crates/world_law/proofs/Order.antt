-- The order of ballots, and induction over it.
use Rattle.std.proofs.Common.{ℕ, zero, suc, ◌≡◌, ◌<◌, true, false, ◌⊎◌, inl, inr, arith, refl, sym}
use Rattle.std.proofs.Common.{◌∙◌}
use Rattle.std.proofs.lemmas.Bool.{false≢true}
use Rattle.fed_types.specs.Ballots.{BallotNumber, below, Below}
use Rattle.fed_types.specs.Laws.Ballots.{below_decides, Below-cases}

pub below_is : (a b : BallotNumber) → below a b ≡ true → Below a b
below_is a b h = (below_decides a b).0 h

pub below_not : (a b : BallotNumber) → below a b ≡ false → ¬ Below a b
below_not a b h k = false≢true (sym h ∙ (below_decides a b).1 k)

pub at_most_trans : (a b c : BallotNumber) → ¬ Below b a → ¬ Below c b → ¬ Below c a
at_most_trans a b c h k = grind arith

pub below_at_most : (a b c : BallotNumber) → ¬ Below b a → Below b c → Below a c
below_at_most a b c h k = grind arith

-- b is not below a: they are the same, or a is below b
pub at_most_cases : (a b : BallotNumber) → ¬ Below b a → (a ≡ b) ⊎ Below a b
at_most_cases a b h =
    elim (Below-cases a b)
    [ inl k ↦ inr k | inr (inl k) ↦ inl k | inr (inr k) ↦ absurd (h k) ]

-- induction over the ballots below
module _ (P : BallotNumber → Type 0)
    (step : (b : BallotNumber) → ((c : BallotNumber) → Below c b → P c) → P b) where
  all_within : (rounds sites : ℕ) (b : BallotNumber)
      → (b.round < rounds) ⊎ ((b.round ≡ rounds) × (b.site < sites)) → P b
  all_within zero zero b h = absurd (omega arith)
  all_within (suc r) zero b h = step b (λ c k. all_within r (suc c.site) c (grind arith))
  all_within r (suc s) b h = step b (λ c k. all_within r s c (grind arith))

  pub ballot_induction : (b : BallotNumber) → P b
  ballot_induction b = all_within b.round (suc b.site) b (inr (refl, omega arith))
