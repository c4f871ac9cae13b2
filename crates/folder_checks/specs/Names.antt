-- Folders by names that may be any bytes: those of a list, and what their checks answer.
use Rattle.std.specs.Prelude.{ℕ, ◌-◌, ◌==◌, if◌then◌else◌, List, [], ◌∷◌, length, take}
use Rattle.std.specs.Prelude.{slice_index, codes}
use Rattle.std.specs.Prelude.{Option, Some, Result, Err}
use Rattle.std.specs.List.{slice_split}
use Rattle.std.specs.Str.{is_utf8}
use Rattle.bag_tree.specs.declared.fault.TreeFault.{TreeFault}
use Rattle.bag_tree.specs.declared.fault.TreeFault.TheVariants.{Listing}
use Rattle.bag_tree.specs.Facts.{TreeFacts}
use Rattle.folder_checks.specs.declared.report.Report.{Report}
use Rattle.outcomes.specs.Outcomes.{Outcome}
use Rattle.folder_checks.specs.Reports.{IsReport, all_of}

-- ---- the names of a list

-- the text without this byte at its end, if it is there
abbrev pub without_end : ℕ → List ℕ → List ℕ
without_end end text =
    if slice_index text (length text - 1) == end then take (length text - 1) text else text

-- the names of a list: the byte `end` ends each, and may be left out after the last; a name may be
-- of no bytes
unfoldable pub names_of : ℕ → List ℕ → List (List ℕ)
names_of end [] = []
names_of end (byte ∷ bytes) = slice_split (λ b. b == end) (without_end end (byte ∷ bytes))

-- ---- what a check of such folders answers

-- what a read of the folder of this name gives; one that isn't UTF-8 is the name of no folder that
-- can be listed
abbrev pub read_of : (List ℕ → Result TreeFacts TreeFault) → List ℕ → Result TreeFacts TreeFault
read_of gives name = if is_utf8 name then gives name else Err Listing

-- where that read fails: at the folder itself, if its name isn't UTF-8
abbrev pub place_of : Option (List ℕ) → List ℕ → Option (List ℕ)
place_of place name = if is_utf8 name then place else Some (codes ".")

-- the outcome is one with which the check of the folder of this name may end: its lines, each with
-- the name before it, or that memory ran out, without a name
abbrev pub IsNamed : Report → Option (List ℕ) → (List ℕ → Result TreeFacts TreeFault) → List ℕ
    → Outcome → Type 0
IsNamed report place gives name outcome =
    IsReport report (read_of gives name) (place_of place name) name outcome

-- each outcome is one of its name's
unfoldable pub AreOf : (List ℕ → Outcome → Type 0) → List (List ℕ) → List Outcome → Type 0
AreOf Is [] [] = Unit {0}
AreOf Is [] (outcome ∷ outcomes) = ⊥
AreOf Is (name ∷ names) [] = ⊥
AreOf Is (name ∷ names) (outcome ∷ outcomes) = Is name outcome × AreOf Is names outcomes

-- how the checks of the folders of these names may end, and what is then written
abbrev pub EndsAll : (List ℕ → Outcome → Type 0) → List (List ℕ) → (Outcome → Type 0) → Type 0
EndsAll Is names P = (outcomes : List Outcome) × AreOf Is names outcomes × P (all_of outcomes)
