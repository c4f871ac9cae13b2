-- What checking a folder answers.
use Rattle.std.specs.Prelude.{◌≡◌, ◌⊎◌, [], ◌∷◌, ◌++◌, Result, Ok, Err, codes}
use Rattle.std.specs.Fmt.{decimal}
use Rattle.hex.specs.Hex.{encode_lower}
use Rattle.fed_types.specs.declared.bag_id.BagId.{BagId}
use Rattle.bag_tree.specs.declared.fault.TreeFault.{TreeFault}
use Rattle.bag_tree.specs.declared.fault.TreeFault.TheVariants as tree_faults
use Rattle.bag_tree.specs.Facts.{TreeFacts}
use Rattle.bag_tree.specs.Fault as tree_numbers
use Rattle.bag_check.specs.declared.fault.BagFault.{BagFault}
use Rattle.bag_check.specs.declared.fault.BagFault.TheVariants as bag_faults
use Rattle.bag_check.specs.Fault as bag_numbers
use Rattle.bag_check.specs.Check.{check_of}
use Rattle.bag_check.specs.Complete.{complete_of}
use Rattle.folder_checks.specs.declared.report.Question.{Question}
use Rattle.folder_checks.specs.declared.report.Question.TheVariants.{Validity, Completeness}
use Rattle.folder_checks.specs.declared.verdict.Verdict.{Verdict}
use Rattle.folder_checks.specs.declared.verdict.Verdict.TheVariants.{Valid, Complete, Invalid}
use Rattle.folder_checks.specs.declared.verdict.Verdict.TheVariants.{Unread}
use Rattle.outcomes.specs.Outcomes.{Outcome, no_memory}

abbrev pub verdict_of_check : Result BagId BagFault → Verdict
verdict_of_check (Ok bag) = Valid bag
verdict_of_check (Err fault) = Invalid fault

abbrev pub verdict_of_complete : Result BagId BagFault → Verdict
verdict_of_complete (Ok bag) = Complete bag
verdict_of_complete (Err fault) = Invalid fault

-- the verdict on what a read of a folder gives: its identity, or the first fault that holds, or why
-- it can't be read
abbrev pub verdict_of : Result TreeFacts TreeFault → Verdict
verdict_of (Ok facts) = verdict_of_check (check_of facts)
verdict_of (Err fault) = Unread fault

-- the same where it is asked whether the bag is complete
abbrev pub completeness_of : Result TreeFacts TreeFault → Verdict
completeness_of (Ok facts) = verdict_of_complete (complete_of facts)
completeness_of (Err fault) = Unread fault

-- the verdict that is asked for
abbrev pub verdict_by : Question → Result TreeFacts TreeFault → Verdict
verdict_by Validity read = verdict_of read
verdict_by Completeness read = completeness_of read

-- the answer is this verdict, or that memory ran out
abbrev pub IsOrMemory : Verdict → Verdict → Type 0
IsOrMemory (Unread tree_faults.Memory) wanted = Unit {0}
IsOrMemory (Invalid bag_faults.Memory) wanted = Unit {0}
IsOrMemory answer wanted = answer ≡ wanted

-- a verdict's exit status and its line
abbrev pub outcome_of_verdict : Verdict → Outcome
outcome_of_verdict (Valid bag) =
    record { status = 0; text = codes "valid " ++ encode_lower bag.0 ++ 10 ∷ [] }
outcome_of_verdict (Complete bag) =
    record { status = 0; text = codes "complete " ++ encode_lower bag.0 ++ 10 ∷ [] }
outcome_of_verdict (Invalid fault) =
    record {
      status = 1;
      text = codes "invalid " ++ decimal (bag_numbers.number_of fault)
          ++ 10 ∷ [];
    }
outcome_of_verdict (Unread fault) =
    record {
      status = 1;
      text = codes "unread " ++ decimal (tree_numbers.number_of fault)
          ++ 10 ∷ [];
    }

-- what is written of this verdict, where there is room for its line
abbrev pub SaysFor : Verdict → (Outcome → Type 0) → Type 0
SaysFor wanted P = (verdict : Verdict) × IsOrMemory verdict wanted × P (outcome_of_verdict verdict)

-- how a check may end, and what is then written: the folder's verdict, or that memory ran out
abbrev pub AnswersFor : Verdict → (Outcome → Type 0) → Type 0
AnswersFor wanted P = SaysFor wanted P ⊎ P no_memory
