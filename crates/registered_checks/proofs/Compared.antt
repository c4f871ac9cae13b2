-- A check, and then a comparison.
use Rattle.std.proofs.Common.{◌≡◌, ℕ, ◌+◌, List, [], ◌∷◌, length, take, Option, None, Some}
use Rattle.std.proofs.Common.{IfSome, inl, inr, sym, ap, ◌∙◌, subst}
use Rattle.std.specs.Option.{ForSome}
use Rattle.std.specs.String.{string_bytes}
use Rattle.std.specs.Io.KnownBytes.{Appends}
use Rattle.std.proofs.Math.Seq.{take-append-add}
use Rattle.outcomes.proofs.KnownBytes.{Appends-trans}
use Rattle.outcomes.specs.declared.program_output.ProgramOutput.{ProgramOutput}
use Rattle.outcomes.specs.Outcomes.{Outcome, Writes, WritesPrefix, no_memory}
use Rattle.bag_tree.specs.declared.fault.TreeFault.{TreeFault}
use Rattle.bag_tree.specs.Facts.{TreeFacts}
use Rattle.std.proofs.Common.{Result}
use Rattle.folder_checks.specs.declared.report.Detail.{Detail}
use Rattle.folder_checks.specs.declared.report.Detail.TheVariants.{Brief, Explained}
use Rattle.folder_checks.specs.Reports.{validity, TellsFor, ReportsFor, ReportsAll, ReportsOn}
use Rattle.folder_checks.specs.Reports.{all_of}
use Rattle.known_bags.specs.declared.known_bag.KnownBag.{KnownBag}
use Rattle.registered_checks.specs.Held.{Given, Held, held_of}
use Rattle.registered_checks.specs.Checks.{status_of, not_compared, ComparesFor, ComparesOn}
use Rattle.registered_checks.specs.Checks.{ComparesFirst, Ends}
use Rattle.registered_checks.specs.inner.Answers.{IsComparison, IsOrMemory}

-- ---- what is written so is also written otherwise

module _ (detail : Detail) (P Q : Outcome → Type 0) (so : (alone : Outcome) → P alone → Q alone)
  where
    told : (detail : Detail) (read : Result TreeFacts TreeFault) (place : Option (List ℕ))
        → TellsFor (validity detail) read place P → TellsFor (validity detail) read place Q
    told Brief read place (verdict, is, p) = (verdict, is, so _ p)
    told Explained read place (verdict, at, is, is_at, p) = (verdict, at, is, is_at, so _ p)

    reported : (read : Result TreeFacts TreeFault) (place : Option (List ℕ))
        → ReportsFor (validity detail) read place P → ReportsFor (validity detail) read place Q
    reported read place (inl tells) = inl (told detail read place tells)
    reported read place (inr p) = inr (so no_memory p)

    all_reported : (gives : Given) (place : Option (List ℕ)) (paths : List (List ℕ))
        → ReportsAll (validity detail) gives place paths P → ReportsAll (validity detail) gives
        place paths Q
    all_reported gives place paths (outcomes, are, p) = (outcomes, are, so (all_of outcomes) p)

    pub reported_on : (gives : Given) (place : Option (List ℕ)) (paths : List (List ℕ))
        → ReportsOn (validity detail) gives place paths P → ReportsOn (validity detail) gives place
        paths Q
    reported_on gives place [] all = all_reported gives place [] all
    reported_on gives place (path ∷ []) one = reported (gives path) place one
    reported_on gives place (path ∷ next ∷ paths) all =
        all_reported gives place (path ∷ next ∷ paths) all

-- ---- a comparison after a check

-- the bags were compared
compared_after : (held : List Held) (known : List KnownBag) (old mid new : Option (List ℕ))
    (status : ℕ) (answer : ProgramOutput) → new ≡ mid → IsComparison held known status answer
    → (alone : Outcome) → Writes old mid status alone
    → ComparesFor held known (Ends old new answer.status (string_bytes answer.text)) alone
compared_after held known old mid new status answer kept is alone wrote =
    inl (
      (
        is.0 ∙ ap (status_of held known) wrote.0,
        subst (λ end. Appends old end alone.text) (sym kept) wrote.1,
      ),
      is.1,
    )

-- memory ran out
not_compared_after : (held : List Held) (known : List KnownBag) (old mid new : Option (List ℕ))
    (status : ℕ) (answer : ProgramOutput) → IsOrMemory None mid new answer
    → (alone : Outcome) → Writes old mid status alone
    → ComparesFor held known (Ends old new answer.status (string_bytes answer.text)) alone
not_compared_after held known old mid new status answer is alone wrote =
    inr (
      (is.0, Appends-trans old mid new alone.text no_memory.text wrote.1 is.2),
      is.1,
    )

module _ (detail : Detail) (place : Option (List ℕ)) (paths : List (List ℕ))
    (old mid new : Option (List ℕ)) (status : ℕ) where
  -- a check ended, and its bags were compared, or memory ran out
  pub compared_on : (known : List KnownBag) (before after : Option Given)
      (comparison : Option ProgramOutput) (answer : ProgramOutput) → after ≡ before
      → IfSome before (λ gives. ReportsOn (validity detail) gives place paths
      (Writes old mid status))
      → IfSome comparison (λ it. ForSome after (λ gives.
      IsComparison (held_of gives paths) known status it))
      → IsOrMemory comparison mid new answer
      → IfSome before (λ gives. ComparesOn detail gives place paths known
      (Ends old new answer.status (string_bytes answer.text)))
  compared_on known None after comparison answer kept reports is ends = tt
  compared_on known (Some gives) after None answer kept reports is ends =
      reported_on detail (Writes old mid status)
      (ComparesFor (held_of gives paths) known
      (Ends old new answer.status (string_bytes answer.text)))
      (not_compared_after (held_of gives paths) known old mid new status answer ends)
      gives place paths reports
  compared_on known (Some gives) after (Some it) answer kept reports is ends =
      reported_on detail (Writes old mid status)
      (ComparesFor (held_of gives paths) known
      (Ends old new answer.status (string_bytes answer.text)))
      (compared_after (held_of gives paths) known old mid new status answer ends.1
      (subst (IsComparison (held_of gives paths) known status) (sym ends.0) (is gives kept)))
      gives place paths reports

  -- a check ended, and the writer took a part of what is written where memory ran out
  stopped_after : (n : ℕ) → Appends mid new (take n no_memory.text)
      → (alone : Outcome) → Writes old mid status alone → WritesPrefix old new (not_compared alone)
  stopped_after n part alone wrote = (
    length alone.text + n,
    subst (Appends old new) (sym (take-append-add alone.text no_memory.text n))
        (Appends-trans old mid new alone.text (take n no_memory.text) wrote.1 part),
  )

  pub stopped_on : (before : Option Given) (n : ℕ) → Appends mid new (take n no_memory.text)
      → IfSome before (λ gives. ReportsOn (validity detail) gives place paths
      (Writes old mid status))
      → IfSome before (λ gives.
      ComparesFirst detail gives place paths (WritesPrefix old new))
  stopped_on None n part reports = tt
  stopped_on (Some gives) n part reports =
      inr (reported_on detail (Writes old mid status)
      (λ alone. WritesPrefix old new (not_compared alone)) (stopped_after n part) gives place paths
      reports)
