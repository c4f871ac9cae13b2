-- The order of ballots is total.
use Rattle.std.specs.Prelude.{◌≡◌, ℕ, ◌⊎◌, true, false, not, ◌==◌, Decides, refl}
use Rattle.std.proofs.Common.{arith, inl, inr, subst, ap, eq-eqb}
use Rattle.std.specs.Cmp.{IsTotalOrder, IsPartialOrder, partial_order_from_agreeing_total}
use Rattle.std.specs.Ordering.{as_partial_cmp, is_gt, is_le, is_ge, is_eq}
use Rattle.std.proofs.lemmas.Bool.{cases_order, false_from_ne_true, and_parts, and_from, eqb-true}
use Rattle.std.proofs.lemmas.Bool.Decides.{nat_tests}
use Rattle.std.proofs.lemmas.Cmp.{then_total, on_total, nat_cmp_total}
use Rattle.fed_types.specs.Ballots.{BallotNumber, same_ballot, ballot_cmp, below, Below}

-- the order is total
pub ballot_cmp_total : IsTotalOrder ballot_cmp
unfolding ballot_cmp
ballot_cmp_total =
    then_total (on_total (λ b. b.round) nat_cmp_total) (on_total (λ b. b.site) nat_cmp_total)

-- ballots are equal exactly where the order answers so
pub ballot_eq_ties : (a b : BallotNumber) → same_ballot a b ≡ is_eq (ballot_cmp a b)
unfolding ballot_cmp
ballot_eq_ties a b = grind (arith, nat_tests)

-- `partial_cmp` answers what the order does
pub ballot_cmp_partial : IsPartialOrder same_ballot (as_partial_cmp ballot_cmp)
ballot_cmp_partial =
    partial_order_from_agreeing_total ballot_cmp ballot_cmp_total (λ a b. refl) ballot_eq_ties

-- a ballot by its parts
built : (round round' site site' : ℕ) → round ≡ round' → site ≡ site'
    → let made : ℕ → ℕ → BallotNumber = λ r s. record { round = r; site = s } in
    made round site ≡ made round' site'
built round round' site site' e f = cc

-- the test passes exactly where the two ballots are equal
pub same_ballot_decides : (a b : BallotNumber) → Decides (same_ballot a b) (a ≡ b)
same_ballot_decides a b = (
  λ h. let parts = and_parts (a.round == b.round) (a.site == b.site) h in
      built a.round b.round a.site b.site (eqb-true a.round b.round parts.0)
      (eqb-true a.site b.site parts.1),
  λ e. and_from (a.round == b.round) (a.site == b.site)
      (eq-eqb a.round b.round (ap (λ c. c.round) e))
      (eq-eqb a.site b.site (ap (λ c. c.site) e)),
)

-- of two ballots one is below the other, or they are equal
pub Below-cases : (a b : BallotNumber) → Below a b ⊎ ((a ≡ b) ⊎ Below b a)
Below-cases a b =
    elim (cases_order a.round b.round) [
      | inl same ↦ elim (cases_order a.site b.site) [
        | inl same' ↦ inr (inl (built a.round b.round a.site b.site same same'))
        | inr differ ↦ elim differ [
          | inl less ↦ inl (inr (same, less))
          | inr more ↦ inr (inr (inr (omega arith, more)))
        ]
      ]
      | inr differ ↦ elim differ [ inl less ↦ inl (inl less) | inr more ↦ inr (inr (inl more)) ]
    ]

-- no ballot is below itself
pub Below-irreflexive : (a : BallotNumber) → Below a a → ⊥
Below-irreflexive a h = grind arith

-- no ballot is below one that it equals or is above
pub Below-asymmetric : (a b : BallotNumber) → Below a b → (a ≡ b) ⊎ Below b a → ⊥
Below-asymmetric a b h rest =
    elim rest [
      | inl same ↦ Below-irreflexive b (subst (λ (c : BallotNumber). Below c b) same h)
      | inr back ↦ grind arith
    ]

-- what is below a ballot is below all above it
pub Below-transitive : (a b c : BallotNumber) → Below a b → Below b c → Below a c
Below-transitive a b c h k = grind arith

-- the test passes exactly where the first ballot is below the second
pub below_decides : (a b : BallotNumber) → Decides (below a b) (Below a b)
unfolding ballot_cmp
below_decides a b = (λ e. grind (arith, nat_tests), λ h. grind (arith, nat_tests))

-- the same for `grind`, with what follows from the test's other answer
pub below_answers : (a b : BallotNumber)
    → ((below a b ≡ true) × Below a b) ⊎ ((below a b ≡ false) × ((a ≡ b) ⊎ Below b a))
below_answers a b =
    elim (Below-cases a b) [
      | inl less ↦ inl ((below_decides a b).1 less, less)
      | inr rest ↦
          inr (
            false_from_ne_true (below a b)
                (λ e. Below-asymmetric a b ((below_decides a b).0 e) rest),
            rest,
          )
    ]

-- `>` by `<`
pub above_below : (a b : BallotNumber) → is_gt (ballot_cmp a b) ≡ below b a
unfolding ballot_cmp
above_below a b = grind (arith, nat_tests)

-- `<=` by `<`
pub up_to_below : (a b : BallotNumber) → is_le (ballot_cmp a b) ≡ not (below b a)
unfolding ballot_cmp
up_to_below a b = grind (arith, nat_tests)

-- `>=` by `<`
pub from_below : (a b : BallotNumber) → is_ge (ballot_cmp a b) ≡ not (below a b)
unfolding ballot_cmp
from_below a b = grind (arith, nat_tests)
