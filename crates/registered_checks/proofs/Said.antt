-- A check against a source, and then what is said.
use Rattle.std.proofs.Common.{◌≡◌, ℕ, Bool, true, false, List, Option, None, Some, IfSome}
use Rattle.std.proofs.Common.{inl, inr, sym, ◌∙◌, arith}
use Rattle.folder_checks.specs.declared.report.Detail.{Detail}
use Rattle.known_bags.specs.declared.known_bag.KnownBag.{KnownBag}
use Rattle.outcomes.specs.Outcomes.{Outcome}
use Rattle.registered_checks.specs.Held.{Given, held_of}
use Rattle.registered_checks.specs.Checks.{ComparesFor, ComparesOn, Ends, IsSaid}
use Rattle.registered_checks.specs.Lists.{AnswersTo}
use Rattle.registered_checks.specs.Files.{IsSaidOn, EndsOn}
use Rattle.registered_checks.proofs.Compared.{reported_on}

-- ---- what ends so also ends otherwise

module _ (P Q : Outcome → List ℕ → Type 0)
    (so : (outcome : Outcome) (words : List ℕ) → P outcome words → Q outcome words) where
  compared_so : (given : Given) (paths : List (List ℕ)) (known : List KnownBag) (alone : Outcome)
      → ComparesFor (held_of given paths) known P alone
      → ComparesFor (held_of given paths) known Q alone
  compared_so given paths known alone (inl p) = inl (so _ _ p)
  compared_so given paths known alone (inr p) = inr (so _ _ p)

  known_so : (detail : Detail) (given : Option Given) (place : Option (List ℕ))
      (paths : List (List ℕ)) (known : List KnownBag)
      → IfSome given (λ gives. ComparesOn detail gives place paths known P)
      → IfSome given (λ gives. ComparesOn detail gives place paths known Q)
  known_so detail None place paths known compares = tt
  known_so detail (Some gives) place paths known compares =
      reported_on detail (ComparesFor (held_of gives paths) known P)
      (ComparesFor (held_of gives paths) known Q) (compared_so gives paths known) gives place paths
      compares

  pub answers_so : (source : List ℕ) (detail : Detail) (given : Option Given)
      (place : Option (List ℕ)) (paths : List (List ℕ))
      → AnswersTo source detail given place paths P
      → AnswersTo source detail given place paths Q
  answers_so source detail given place paths (inl (known, knows, compares)) =
      inl (known, knows, known_so detail given place paths known compares)
  answers_so source detail given place paths (inr (fault, is, p)) = inr (fault, is, so _ _ p)

-- ---- saying

-- a check ended, without a failure of the output, and what was to be said then was said
pub ends_on : (versions : Bool) (old mid new : Option (List ℕ)) (before middle after : ℕ)
    (other_old other_new : Option (List ℕ)) (other_before other_after : ℕ) (alone status : ℕ)
    (text : List ℕ) → middle ≡ before
    → IsSaidOn versions mid new middle after other_old other_new other_before other_after alone
    status text
    → (outcome : Outcome) (words : List ℕ) → Ends old mid alone text outcome words
    → EndsOn versions old new before after other_old other_new other_before other_after status
    outcome words
ends_on versions old mid new before middle after other_old other_new other_before other_after
    alone status text same said outcome words ends = (
      mid,
      ends.0.1,
      rw (← same, ← ends.0.0, ← ends.1) said,
    )

-- the status 0 is that of the check
zero_alone : (old new : Option (List ℕ)) (before after : ℕ) (alone status : ℕ)
    (text : List ℕ) → IsSaid old new before after alone status text → status ≡ 0 → alone ≡ 0
zero_alone old new before after alone status text (inl said) zero = sym said.0 ∙ zero
zero_alone old new before after alone status text (inr said) zero =
    absurd (omega (arith, said.1, zero))

pub zero_on : (versions : Bool) (old new : Option (List ℕ)) (before after : ℕ)
    (other_old other_new : Option (List ℕ)) (other_before other_after : ℕ) (alone status : ℕ)
    (text : List ℕ)
    → IsSaidOn versions old new before after other_old other_new other_before other_after alone
    status text
    → status ≡ 0 → alone ≡ 0
zero_on true old new before after other_old other_new other_before other_after alone status text
    said =
    zero_alone old new before after alone status text said.0
zero_on false old new before after other_old other_new other_before other_after alone status text
    said =
    zero_alone other_old other_new other_before other_after alone status text said.0
