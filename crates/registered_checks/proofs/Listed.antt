-- A check against a source.
use Rattle.std.proofs.Common.{◌≡◌, ℕ, List, [], Option, IfSome, Result, Ok, Err}
use Rattle.std.proofs.Common.{inl, inr, subst}
use Rattle.std.specs.Prelude.{IsTrue, IfOk}
use Rattle.folder_checks.specs.declared.report.Detail.{Detail}
use Rattle.known_bags.specs.declared.known_bag.KnownBag.{KnownBag}
use Rattle.known_bags.specs.declared.sources.SourceFault.{SourceFault}
use Rattle.known_bags.specs.declared.sources.SourceFault.TheVariants as faults
use Rattle.known_bags.specs.Sources.{Knows, IsNoSource, IsSourceOf}
use Rattle.outcomes.specs.Outcomes.{Outcome, Writes, WritesPrefix}
use Rattle.registered_checks.specs.Held.{Given}
use Rattle.registered_checks.specs.Checks.{Ends, ComparesOn, agree}
use Rattle.known_bags.specs.Faults.{AnswersFault}
use Rattle.registered_checks.specs.Lists.{AnswersTo, AnswersFirst}

-- the bags that a source knows are the held ones where the status is 0
pub agreed_to : {T E : Type 0} (checked : Result T E) (status : T → ℕ) (source : List ℕ)
    (given : Option Given) (paths : List (List ℕ)) (bags : List KnownBag)
    → IsSourceOf source [] bags (Ok tt)
    → IfOk checked (λ it. status it ≡ 0
    → IfSome given (λ gives. IsTrue (agree gives paths bags)))
    → IfOk checked (λ it. status it ≡ 0
    → (known : List KnownBag) × Knows source known
    × IfSome given (λ gives. IsTrue (agree gives paths known)))
agreed_to (Err e) status source given paths bags is agreed = tt
agreed_to (Ok it) status source given paths bags is agreed =
    λ zero. (
      is.0,
      is.1,
      subst (λ known. IfSome given (λ gives. IsTrue (agree gives paths known))) is.2 (agreed zero),
    )

-- a check against the bags that a source knows is one against the source
pub answers_to : {T E : Type 0} (checked : Result T E) (P : T → Outcome → List ℕ → Type 0)
    (source : List ℕ) (detail : Detail) (given : Option Given) (place : Option (List ℕ))
    (paths : List (List ℕ)) (bags : List KnownBag) → IsSourceOf source [] bags (Ok tt)
    → IfOk checked (λ it. IfSome given (λ gives. ComparesOn detail gives place paths bags (P it)))
    → IfOk checked (λ it. AnswersTo source detail given place paths (P it))
answers_to (Err e) P source detail given place paths bags is compares = tt
answers_to (Ok it) P source detail given place paths bags is compares =
    inl (
      is.0,
      is.1,
      subst (λ known. IfSome given (λ gives. ComparesOn detail gives place paths known (P it)))
          is.2 compares,
    )

-- a source knows nothing
module _ (source : List ℕ) (detail : Detail) (given : Option Given) (place : Option (List ℕ))
    (paths : List (List ℕ)) (fault : SourceFault) (is : IsNoSource source fault)
    (old new : Option (List ℕ)) where
  pub refused : (status : ℕ) (said : List ℕ)
      → AnswersFault fault (Writes old new status)
      → said ≡ [] → AnswersTo source detail given place paths (Ends old new status said)
  refused status said (inl writes) none = inr (fault, is, (writes, none))
  refused status said (inr (number, writes)) none = inr (faults.Memory, tt, (writes, none))

  pub refused_at : AnswersFault fault (WritesPrefix old new)
      → AnswersFirst source detail given place paths (WritesPrefix old new)
  refused_at (inl part) = inr (fault, is, part)
  refused_at (inr (number, part)) = inr (faults.Memory, tt, part)
