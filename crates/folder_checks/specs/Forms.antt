-- In which forms checks are reported.
use Rattle.std.specs.Prelude.{List, ℕ, Option, Result}
use Rattle.bag_tree.specs.declared.fault.TreeFault.{TreeFault}
use Rattle.bag_tree.specs.Facts.{TreeFacts}
use Rattle.outcomes.specs.Outcomes.{Outcome, no_memory}
use Rattle.folder_checks.specs.declared.form.Form.{Form}
use Rattle.folder_checks.specs.declared.form.Form.TheVariants.{Lines, Json}
use Rattle.folder_checks.specs.declared.report.Report.{Report}
use Rattle.folder_checks.specs.Names.{IsNamed, read_of, place_of}
use Rattle.folder_checks.specs.Json.{EndsInJson, json_memory}

-- the outcome is one with which the check of the folder of this name may end: its line of JSON, or
-- that memory ran out
abbrev pub IsJson : Report → Option (List ℕ) → (List ℕ → Result TreeFacts TreeFault) → List ℕ
    → Outcome → Type 0
IsJson report place gives name outcome =
    EndsInJson report (read_of gives name) (place_of place name) name outcome

-- the same in this form
abbrev pub IsForm : Form → Option (List ℕ) → (List ℕ → Result TreeFacts TreeFault) → List ℕ
    → Outcome → Type 0
IsForm (Lines report) place gives name outcome = IsNamed report place gives name outcome
IsForm (Json report) place gives name outcome = IsJson report place gives name outcome

-- what is written of a folder where memory ran out
abbrev pub without_memory : Form → Outcome
without_memory (Lines report) = no_memory
without_memory (Json report) = json_memory
