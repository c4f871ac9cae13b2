-- What an explained check of a folder answers.
use Rattle.std.specs.Prelude.{◌≡◌, ◌⊎◌, ℕ, List, [], ◌∷◌, ◌++◌}
use Rattle.std.specs.Prelude.{Option, Some, None, Result, Ok, Err, IfSome}
use Rattle.std.specs.Fmt.{decimal}
use Rattle.tokens.specs.Escapes.{escaped_text}
use Rattle.bag_tree.specs.declared.fault.TreeFault.{TreeFault}
use Rattle.bag_tree.specs.Facts.{TreeFacts}
use Rattle.bag_tree.specs.Fault.{number_of}
use Rattle.bag_explain.specs.Findings.{explanation_of, gap_explanation_of}
use Rattle.folder_checks.specs.declared.report.Question.{Question}
use Rattle.folder_checks.specs.declared.report.Question.TheVariants.{Validity, Completeness}
use Rattle.folder_checks.specs.declared.verdict.Verdict.{Verdict}
use Rattle.folder_checks.specs.declared.verdict.Verdict.TheVariants.{Valid, Complete, Invalid}
use Rattle.folder_checks.specs.declared.verdict.Verdict.TheVariants.{Unread}
use Rattle.outcomes.specs.Outcomes.{Outcome, no_memory}
use Rattle.folder_checks.specs.Verdicts.{verdict_by, IsOrMemory, outcome_of_verdict}

-- the lines of what is wrong with a tree, or of what keeps it from being a complete bag
abbrev pub lines_by : Question → TreeFacts → List ℕ
lines_by Validity facts = explanation_of facts
lines_by Completeness facts = gap_explanation_of facts

-- the same of one that was read
abbrev pub lines_of : Question → Result TreeFacts TreeFault → List ℕ
lines_of question (Ok facts) = lines_by question facts
lines_of question (Err fault) = []

-- the line of a place where a folder can't be read: the fault's number, a space, and the place
abbrev pub unread_line : TreeFault → Option (List ℕ) → List ℕ
unread_line fault None = []
unread_line fault (Some place) = decimal (number_of fault) ++ 32 ∷ (escaped_text place ++ 10 ∷ [])

-- the lines after a verdict: if the folder wasn't read, the line of the place, if there is one
abbrev pub lines_after : Question → Verdict → Result TreeFacts TreeFault → Option (List ℕ) → List ℕ
lines_after question (Unread fault) read place = unread_line fault place
lines_after question (Valid bag) read place = lines_of question read
lines_after question (Complete bag) read place = lines_of question read
lines_after question (Invalid fault) read place = lines_of question read

-- a verdict's exit status, its line, and these lines
abbrev pub outcome_with : Verdict → List ℕ → Outcome
outcome_with verdict lines = record {
  status = (outcome_of_verdict verdict).status;
  text = (outcome_of_verdict verdict).text ++ lines;
}

-- the place is the known one
abbrev pub IsPlace : Option (List ℕ) → Option (List ℕ) → Type 0
IsPlace known place = IfSome known (λ it. place ≡ Some it)

-- what is written for the folder's verdict with all that is wrong, if there is room for it
abbrev pub SaysAllFor : Question → Result TreeFacts TreeFault → Option (List ℕ)
    → (Outcome → Type 0) → Type 0
SaysAllFor question read known P =
    (verdict : Verdict) × (place : Option (List ℕ))
    × IsOrMemory verdict (verdict_by question read)
    × IsPlace known place × P (outcome_with verdict (lines_after question verdict read place))

-- how an explained check may end, and what is then written: the folder's verdict with all that is
-- wrong, or that memory ran out
abbrev pub ExplainsFor : Question → Result TreeFacts TreeFault → Option (List ℕ)
    → (Outcome → Type 0) → Type 0
ExplainsFor question read known P = SaysAllFor question read known P ⊎ P no_memory

-- the status and the text are those of the folder's verdict with all that is wrong
abbrev pub IsAnswer : Question → Result TreeFacts TreeFault → Option (List ℕ) → ℕ → List ℕ → Type 0
IsAnswer question read known status text =
    SaysAllFor question read known (λ outcome. (status ≡ outcome.status) × (text ≡ outcome.text))
