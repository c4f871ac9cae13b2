-- The answers of an explained check.
use Rattle.std.proofs.Common.{◌≡◌, ℕ, List, Option, Some, None, Result, Ok, Err}
use Rattle.std.proofs.Common.{refl, ap, ◌∙◌}
use Rattle.std.specs.Result.{IfOk}
use Rattle.std.specs.Prelude.{IfSome}
use Rattle.std.specs.declared.alloc.AllocError.{AllocError}
use Rattle.bag_tree.specs.declared.fault.TreeFault.{TreeFault}
use Rattle.bag_tree.specs.declared.fault.TreeFault.TheVariants as tree_faults
use Rattle.bag_tree.specs.Facts.{TreeFacts}
use Rattle.bag_tree.specs.Fault as tree_numbers
use Rattle.std.specs.String.{string_bytes}
use Rattle.outcomes.specs.declared.program_output.ProgramOutput.{ProgramOutput}
use Rattle.folder_checks.specs.declared.report.Question.{Question}
use Rattle.folder_checks.specs.declared.report.Question.TheVariants.{Validity, Completeness}
use Rattle.folder_checks.specs.declared.verdict.Verdict.{Verdict}
use Rattle.folder_checks.specs.declared.verdict.Verdict.TheVariants.{Unread}
use Rattle.folder_checks.specs.Verdicts.{verdict_by, IsOrMemory}
use Rattle.folder_checks.specs.Explanations.{unread_line, lines_after, outcome_with, IsAnswer}
use Rattle.folder_checks.specs.Explanations.{IsPlace}

-- a known place is the known one
pub known_is : (known : Option (List ℕ)) → IsPlace known known
known_is None = tt
known_is (Some place) = refl

-- the answer for a tree that was read
pub answered : (question : Question) (facts : TreeFacts) (verdict : Verdict) (lines : List ℕ)
    (r : Result ProgramOutput AllocError) → IsOrMemory verdict (verdict_by question (Ok facts))
    → ((place : Option (List ℕ)) → lines ≡ lines_after question verdict (Ok facts) place)
    → IfOk r (λ a. a.status ≡ (outcome_with verdict lines).status)
    → IfOk r (λ a. string_bytes a.text ≡ (outcome_with verdict lines).text)
    → IfOk r (λ a. (known : Option (List ℕ))
    → IsAnswer question (Ok facts) known a.status (string_bytes a.text))
answered question facts verdict lines (Err e) is same s t = tt
answered question facts verdict lines (Ok a) is same s t = λ known. (
  verdict,
  known,
  is,
  known_is known,
  (s, t ∙ ap (λ l. (outcome_with verdict l).text) (same known)),
)

-- the verdict on a folder that wasn't read
pub unread_is : (question : Question) (read : Result TreeFacts TreeFault) (fault : TreeFault)
    → tree_numbers.IsOrMemory {T = TreeFacts} (Err fault) read
    → IsOrMemory (Unread fault) (verdict_by question read)
unread_is Validity read tree_faults.Listing is = rw is refl
unread_is Completeness read tree_faults.Listing is = rw is refl
unread_is Validity read tree_faults.NotAFile is = rw is refl
unread_is Completeness read tree_faults.NotAFile is = rw is refl
unread_is Validity read tree_faults.TooDeep is = rw is refl
unread_is Completeness read tree_faults.TooDeep is = rw is refl
unread_is Validity read tree_faults.TooMany is = rw is refl
unread_is Completeness read tree_faults.TooMany is = rw is refl
unread_is Validity read tree_faults.TextTooLong is = rw is refl
unread_is Completeness read tree_faults.TextTooLong is = rw is refl
unread_is Validity read tree_faults.Device is = rw is refl
unread_is Completeness read tree_faults.Device is = rw is refl
unread_is question read tree_faults.Memory is = tt
unread_is Validity read tree_faults.BadPath is = rw is refl
unread_is Completeness read tree_faults.BadPath is = rw is refl

-- the answer for a folder that wasn't read
pub unread : (question : Question) (read : Result TreeFacts TreeFault)
    (known place : Option (List ℕ)) (fault : TreeFault)
    (r : Result ProgramOutput AllocError) → tree_numbers.IsOrMemory (Err fault) read
    → IsPlace known place
    → IfOk r (λ a. a.status ≡ (outcome_with (Unread fault) (unread_line fault place)).status)
    → IfOk r
    (λ a. string_bytes a.text ≡ (outcome_with (Unread fault) (unread_line fault place)).text)
    → IfOk r (λ a. IsAnswer question read known a.status (string_bytes a.text))
unread question read known place fault (Err e) is at s t = tt
unread question read known place fault (Ok a) is at s t =
    (Unread fault, place, unread_is question read fault is, at, (s, t))

-- the same, where it is known what a read gives
pub unread_known : (question : Question) (gives : Option (List ℕ → Result TreeFacts TreeFault))
    (known place : Option (List ℕ)) (path lines : List ℕ) (fault : TreeFault)
    (r : Result ProgramOutput AllocError)
    → IfSome gives (λ gives. tree_numbers.IsOrMemory {T = TreeFacts} (Err fault) (gives path))
    → IsPlace known place → lines ≡ unread_line fault place
    → IfOk r (λ a. a.status ≡ (outcome_with (Unread fault) lines).status)
    → IfOk r (λ a. string_bytes a.text ≡ (outcome_with (Unread fault) lines).text)
    → IfOk r (λ a. IfSome gives
    (λ gives. IsAnswer question (gives path) known a.status (string_bytes a.text)))
unread_known question gives known place path lines fault (Err e) is at same s t = tt
unread_known question None known place path lines fault (Ok a) is at same s t = tt
unread_known question (Some gives) known place path lines fault (Ok a) is at same s t =
    unread question (gives path) known place fault (Ok a) is at
    (s ∙ ap (λ l. (outcome_with (Unread fault) l).status) same)
    (t ∙ ap (λ l. (outcome_with (Unread fault) l).text) same)

-- the answer for a folder that was read, where it is known what a read gives
pub read_known : (question : Question) (gives : Option (List ℕ → Result TreeFacts TreeFault))
    (known : Option (List ℕ))
    (path : List ℕ) (facts : TreeFacts) (r : Result ProgramOutput AllocError)
    → IfSome gives (λ gives. tree_numbers.IsOrMemory {T = TreeFacts} (Ok facts) (gives path))
    → IfOk r (λ a. (known : Option (List ℕ))
    → IsAnswer question (Ok facts) known a.status (string_bytes a.text))
    → IfOk r (λ a. IfSome gives
    (λ gives. IsAnswer question (gives path) known a.status (string_bytes a.text)))
read_known question gives known path facts (Err e) is answers = tt
read_known question None known path facts (Ok a) is answers = tt
read_known question (Some gives) known path facts (Ok a) is answers = rw is (answers known)
