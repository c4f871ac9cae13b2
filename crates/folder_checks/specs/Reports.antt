-- What a check of one or several folders answers.
use Rattle.std.specs.Prelude.{◌≡◌, ◌⊎◌, ℕ, Bool, true, false, if◌then◌else◌, nat_eq}
use Rattle.std.specs.Prelude.{List, [], ◌∷◌, ◌++◌, take, Option, Result}
use Rattle.std.specs.List.{flat_map, list_all}
use Rattle.tokens.specs.Escapes.{escaped_text}
use Rattle.bag_tree.specs.declared.fault.TreeFault.{TreeFault}
use Rattle.bag_tree.specs.Facts.{TreeFacts}
use Rattle.folder_checks.specs.declared.report.Report.{Report}
use Rattle.folder_checks.specs.declared.report.Detail.{Detail}
use Rattle.folder_checks.specs.declared.report.Detail.TheVariants.{Brief, Explained}
use Rattle.folder_checks.specs.declared.report.Question.{Question}
use Rattle.folder_checks.specs.declared.report.Question.TheVariants.{Validity}
use Rattle.outcomes.specs.Outcomes.{Outcome, no_memory}
use Rattle.folder_checks.specs.Verdicts.{verdict_by, SaysFor}
use Rattle.folder_checks.specs.Explanations.{SaysAllFor}

-- what is written for a folder, from what a read of it gives and where it fails, if there is room
-- for its lines
abbrev pub TellsBy : Detail → Question → Result TreeFacts TreeFault → Option (List ℕ)
    → (Outcome → Type 0) → Type 0
TellsBy Brief question read place P = SaysFor (verdict_by question read) P
TellsBy Explained question read place P = SaysAllFor question read place P

abbrev pub TellsFor : Report → Result TreeFacts TreeFault → Option (List ℕ)
    → (Outcome → Type 0) → Type 0
TellsFor report read place P = TellsBy report.detail report.question read place P

-- a report on whether a folder is a valid bag
abbrev pub validity : Detail → Report
validity detail = record { question = Validity; detail = detail }

-- what a check of a folder may end with: its lines, or that memory ran out
abbrev pub ReportsFor : Report → Result TreeFacts TreeFault → Option (List ℕ)
    → (Outcome → Type 0) → Type 0
ReportsFor report read place P = TellsFor report read place P ⊎ P no_memory

-- ---- several folders

-- a name and a space where a line begins, and nothing elsewhere
abbrev pub name_where : Bool → List ℕ → List ℕ
name_where true name = name ++ 32 ∷ []
name_where false name = []

-- the text with this name before each line, where `begins` says whether a line begins here
unfoldable pub named_from : List ℕ → Bool → List ℕ → List ℕ
named_from name begins [] = []
named_from name begins (byte ∷ bytes) =
    name_where begins name ++ byte ∷ named_from name (nat_eq byte 10) bytes

-- the outcome with the folder's path, escaped, before each line
abbrev pub named_outcome : List ℕ → Outcome → Outcome
named_outcome path outcome = record {
  status = outcome.status;
  text = named_from (escaped_text path) true outcome.text;
}

-- the outcome is one with which the check of the folder of this path, among several, may end: its
-- lines with its name, or that memory ran out, without a name
abbrev pub IsReport : Report → Result TreeFacts TreeFault → Option (List ℕ) → List ℕ
    → Outcome → Type 0
IsReport report read place path outcome =
    TellsFor report read place (λ plain. outcome ≡ named_outcome path plain)
    ⊎ (outcome ≡ no_memory)

-- each outcome is one that the check of its folder may end with
unfoldable pub AreReports : Report → (List ℕ → Result TreeFacts TreeFault) → Option (List ℕ)
    → List (List ℕ) → List Outcome → Type 0
AreReports report gives place [] [] = Unit {0}
AreReports report gives place [] (outcome ∷ outcomes) = ⊥
AreReports report gives place (path ∷ paths) [] = ⊥
AreReports report gives place (path ∷ paths) (outcome ∷ outcomes) =
    IsReport report (gives path) place path outcome × AreReports report gives place paths outcomes

-- all have the status 0
abbrev pub all_valid : List Outcome → Bool
all_valid outcomes = list_all (λ outcome. nat_eq outcome.status 0) outcomes

-- one text after another, and the status 0 if each has status 0
abbrev pub all_of : List Outcome → Outcome
all_of outcomes = record {
  status = if all_valid outcomes then 0 else 1;
  text = flat_map (λ outcome. outcome.text) outcomes;
}

-- how the checks of these folders may end, and what is then written
abbrev pub ReportsAll : Report → (List ℕ → Result TreeFacts TreeFault) → Option (List ℕ)
    → List (List ℕ) → (Outcome → Type 0) → Type 0
ReportsAll report gives place paths P =
    (outcomes : List Outcome) × AreReports report gives place paths outcomes × P (all_of outcomes)

-- ---- all folders that are asked for

-- how a check of these folders may end, and what is then written: for one folder its own lines, for
-- several the lines of each with its name
abbrev pub ReportsOn : Report → (List ℕ → Result TreeFacts TreeFault) → Option (List ℕ)
    → List (List ℕ) → (Outcome → Type 0) → Type 0
ReportsOn report gives place [] P = ReportsAll report gives place [] P
ReportsOn report gives place (path ∷ []) P = ReportsFor report (gives path) place P
ReportsOn report gives place (path ∷ next ∷ paths) P =
    ReportsAll report gives place (path ∷ next ∷ paths) P

-- the same for the folders that were checked when the output failed: the first ones, if there are
-- several
abbrev pub ReportsFirst : Report → (List ℕ → Result TreeFacts TreeFault) → Option (List ℕ)
    → List (List ℕ) → (Outcome → Type 0) → Type 0
ReportsFirst report gives place [] P = ReportsAll report gives place [] P
ReportsFirst report gives place (path ∷ []) P = ReportsFor report (gives path) place P
ReportsFirst report gives place (path ∷ next ∷ paths) P =
    (count : ℕ) × ReportsAll report gives place (take count (path ∷ next ∷ paths)) P
