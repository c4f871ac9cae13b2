-- What the status 0 says.
use Rattle.std.proofs.Common.{◌≡◌, ℕ, Bool, true, false, ◌&&◌, List, [], ◌∷◌, nat_eq}
use Rattle.std.proofs.Common.{Option, Some, None, Result, Ok, Err, IfSome}
use Rattle.std.proofs.Common.{inl, inr, refl, sym, ap, ◌∙◌, arith}
use Rattle.std.proofs.lemmas.Bool.{eqb-true}
use Rattle.std.specs.Prelude.{is_some, if◌then◌else◌}
use Rattle.std.specs.Result.{result_ok}
use Rattle.fed_types.specs.declared.bag_id.BagId.{BagId}
use Rattle.bag_tree.specs.declared.fault.TreeFault.{TreeFault}
use Rattle.bag_tree.specs.Facts.{TreeFacts}
use Rattle.bag_check.specs.declared.fault.BagFault.{BagFault}
use Rattle.bag_check.specs.Check.{check_of}
use Rattle.folder_checks.specs.declared.report.Detail.{Detail}
use Rattle.folder_checks.specs.declared.report.Detail.TheVariants.{Brief, Explained}
use Rattle.folder_checks.specs.declared.verdict.Verdict.{Verdict}
use Rattle.folder_checks.specs.declared.verdict.Verdict.TheVariants.{Valid, Complete, Invalid}
use Rattle.folder_checks.specs.declared.verdict.Verdict.TheVariants.{Unread}
use Rattle.folder_checks.specs.Verdicts.{verdict_of, verdict_of_check, outcome_of_verdict}
use Rattle.folder_checks.specs.Verdicts.{IsOrMemory}
use Rattle.folder_checks.specs.Reports.{TellsFor, ReportsFor, ReportsAll, ReportsOn, IsReport}
use Rattle.folder_checks.specs.Reports.{validity, AreReports, all_valid, named_outcome}
use Rattle.outcomes.specs.Outcomes.{Outcome}
use Rattle.known_bags.specs.declared.known_bag.KnownBag.{KnownBag}
use Rattle.registered_checks.specs.Held.{Given, Held, bag_in, held_of}
use Rattle.registered_checks.specs.Comparisons.{are_equal}
use Rattle.registered_checks.specs.Checks.{ComparesFor, ComparesOn, Ends}
use Rattle.registered_checks.specs.Checks.{are_valid, agree}
use Rattle.registered_checks.proofs.Compared.{reported_on}

-- ---- a check with the status 0: its folder is a valid bag

abbrev has_bag : Result TreeFacts TreeFault → Bool
has_bag read = is_some (bag_in read)

valid_check : (bag : BagId) (found : Result BagId BagFault)
    → Valid bag ≡ verdict_of_check found → is_some (result_ok found) ≡ true
valid_check bag (Ok it) is = refl
valid_check bag (Err fault) is = absurd (cc is)

valid_read : (bag : BagId) (read : Result TreeFacts TreeFault) → Valid bag ≡ verdict_of read
    → has_bag read ≡ true
valid_read bag (Ok facts) is = valid_check bag (check_of facts) is
valid_read bag (Err fault) is = absurd (cc is)

not_complete_check : (bag : BagId) (found : Result BagId BagFault)
    → ¬ (Complete bag ≡ verdict_of_check found)
not_complete_check bag (Ok it) is = cc is
not_complete_check bag (Err fault) is = cc is

not_complete : (bag : BagId) (read : Result TreeFacts TreeFault) → ¬
    (Complete bag ≡ verdict_of read)
not_complete bag (Ok facts) is = not_complete_check bag (check_of facts) is
not_complete bag (Err fault) is = cc is

valid_verdict : (verdict : Verdict) (read : Result TreeFacts TreeFault)
    → IsOrMemory verdict (verdict_of read) → (outcome_of_verdict verdict).status ≡ 0
    → has_bag read ≡ true
valid_verdict (Valid bag) read is zero = valid_read bag read is
valid_verdict (Complete bag) read is zero = absurd (not_complete bag read is)
valid_verdict (Invalid fault) read is zero = absurd (omega (arith, zero))
valid_verdict (Unread fault) read is zero = absurd (omega (arith, zero))

told : (detail : Detail) (read : Result TreeFacts TreeFault) (place : Option (List ℕ))
    (Q : Outcome → Type 0) → ((o : Outcome) → Q o → o.status ≡ 0)
    → TellsFor (validity detail) read place Q → has_bag read ≡ true
told Brief read place Q zero (verdict, is, q) = valid_verdict verdict read is (zero _ q)
told Explained read place Q zero (verdict, at, is, is_at, q) =
    valid_verdict verdict read is (zero _ q)

-- ---- checks of several folders

both : (a b : Bool) → (a && b) ≡ true → (a ≡ true) × (b ≡ true)
both true true is = (refl, refl)
both true false is = absurd (cc is)
both false b is = absurd (cc is)

joined : (a b : Bool) → a ≡ true → b ≡ true → (a && b) ≡ true
joined a b p q = ap (λ (x : Bool). x && b) p ∙ q

one_told : (detail : Detail) (read : Result TreeFacts TreeFault) (place : Option (List ℕ))
    (path : List ℕ) (outcome : Outcome) → IsReport (validity detail) read place path outcome
    → outcome.status ≡ 0 → has_bag read ≡ true
one_told detail read place path outcome (inl tells) zero =
    told detail read place (λ plain. outcome ≡ named_outcome path plain)
    (λ plain is. sym (ap (λ (o : Outcome). o.status) is) ∙ zero) tells
one_told detail read place path outcome (inr is) zero =
    absurd (omega (arith, ap (λ (o : Outcome). o.status) is, zero))

all_told : (detail : Detail) (gives : Given) (place : Option (List ℕ)) (paths : List (List ℕ))
    (outcomes : List Outcome) → AreReports (validity detail) gives place paths outcomes
    → all_valid outcomes ≡ true → are_valid gives paths ≡ true
unfolding AreReports
all_told detail gives place [] [] are valid = refl
all_told detail gives place [] (o ∷ os) are valid = absurd are
all_told detail gives place (path ∷ paths) [] are valid = absurd are
all_told detail gives place (path ∷ paths) (o ∷ os) are valid =
    let parts = both (nat_eq o.status 0) (all_valid os) valid in
    joined (has_bag (gives path)) (are_valid gives paths)
    (one_told detail (gives path) place path o are.0 (eqb-true o.status 0 parts.0))
    (all_told detail gives place paths os are.1 parts.1)

-- ---- all folders that are asked for

valid_status : (valid : Bool) → ◌≡◌ {A = ℕ} (if valid then 0 else 1) 0 → valid ≡ true
valid_status true zero = refl
valid_status false zero = absurd (omega (arith, zero))

abbrev IsZero : Outcome → Type 0
IsZero outcome = outcome.status ≡ 0

module _ (detail : Detail) (gives : Given) (place : Option (List ℕ)) where
  one_valid : (path : List ℕ) → ReportsFor (validity detail) (gives path) place IsZero
      → has_bag (gives path) ≡ true
  one_valid path (inl tells) = told detail (gives path) place IsZero (λ o zero. zero) tells
  one_valid path (inr zero) = absurd (omega (arith, zero))

  all_zero : (paths : List (List ℕ)) → ReportsAll (validity detail) gives place paths IsZero
      → are_valid gives paths ≡ true
  all_zero paths (outcomes, are, zero) =
      all_told detail gives place paths outcomes are (valid_status (all_valid outcomes) zero)

  zero_valid : (paths : List (List ℕ)) → ReportsOn (validity detail) gives place paths IsZero
      → are_valid gives paths ≡ true
  zero_valid [] all = all_zero [] all
  zero_valid (path ∷ []) one = joined (has_bag (gives path)) true (one_valid path one) refl
  zero_valid (path ∷ next ∷ paths) all = all_zero (path ∷ next ∷ paths) all

  module _ (E : Type 0) where
    one_says : (detail : Detail) (read : Result TreeFacts TreeFault)
        → TellsFor (validity detail) read place (λ outcome. E) → E
    one_says Brief read (verdict, is, e) = e
    one_says Explained read (verdict, at, is, is_at, e) = e

    -- what holds of whatever is written holds
    says : (paths : List (List ℕ)) → ReportsOn (validity detail) gives place paths (λ outcome. E)
        → E
    says [] (outcomes, are, e) = e
    says (path ∷ []) (inl tells) = one_says detail (gives path) tells
    says (path ∷ []) (inr e) = e
    says (path ∷ next ∷ paths) (outcomes, are, e) = e

-- ---- the bags are those that are known

equal_status : (equal : Bool) (alone : ℕ) → (if equal then alone else 1) ≡ 0
    → (equal ≡ true) × (alone ≡ 0)
equal_status true alone zero = (refl, zero)
equal_status false alone zero = absurd (omega (arith, zero))

equal_at_zero : (held : List Held) (known : List KnownBag) (old new : Option (List ℕ))
    (status : ℕ) (said : List ℕ) → status ≡ 0 → (alone : Outcome)
    → ComparesFor held known (Ends old new status said) alone
    → (are_equal held known ≡ true) × (alone.status ≡ 0)
equal_at_zero held known old new status said zero alone (inl ends) =
    equal_status (are_equal held known) alone.status (sym ends.0.0 ∙ zero)
equal_at_zero held known old new status said zero alone (inr ends) =
    absurd (omega (arith, ends.0.0, zero))

module _ (detail : Detail) (place : Option (List ℕ)) (paths : List (List ℕ))
    (known : List KnownBag) (old new : Option (List ℕ)) (status : ℕ) (said : List ℕ) where
  -- a comparison with the status 0
  pub agreed : (gives : Option Given)
      → IfSome gives (λ gives.
      ComparesOn detail gives place paths known (Ends old new status said))
      → status ≡ 0 → IfSome gives (λ gives. agree gives paths known ≡ true)
  agreed None compares zero = tt
  agreed (Some gives) compares zero =
      let held : List Held = held_of gives paths in
      let E : Type 0 = are_equal held known ≡ true in
      let P : Outcome → Type 0 = ComparesFor held known (Ends old new status said) in
      let reads : (alone : Outcome) → P alone → E × (alone.status ≡ 0) =
      equal_at_zero held known old new status said zero in
      joined (are_valid gives paths) (are_equal held known)
      (zero_valid detail gives place paths
      (reported_on detail P IsZero (λ alone p. (reads alone p).1) gives place paths compares))
      (says detail gives place E paths
      (reported_on detail P (λ alone. E) (λ alone p. (reads alone p).0) gives place paths
      compares))
