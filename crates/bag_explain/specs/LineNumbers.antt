-- What the number of a line says.
use Rattle.std.specs.Prelude.{◌≡◌, ℕ, ◌+◌, List, ◌∷◌, ◌++◌, length}
use Rattle.bag_text.specs.declared.algorithm.Algorithm.{Algorithm}
use Rattle.bag_text.specs.ListedFile.{ListedFile}
use Rattle.bag_text.specs.Blanks.{IsBlank}
use Rattle.bag_text.specs.Manifests.{IsEntryLine}
use Rattle.bag_explain.specs.Lines.{NumberedFile}

-- the line has this number, where the first of them all has 1
abbrev pub IsLine : List (List ℕ) → ℕ → List ℕ → Type 0
IsLine lines number line =
    (before : List (List ℕ)) × (after : List (List ℕ)) × (lines ≡ before ++ line ∷ after)
    × (number ≡ length before + 1)

-- the line of the number lists the file
abbrev pub ListsAt : Algorithm → List (List ℕ) → NumberedFile → Type 0
ListsAt algorithm lines entry =
    (line : List ℕ) × IsLine lines entry.line line × IsEntryLine algorithm line entry.file

-- the line of this number is malformed: it neither is blank nor lists a file
abbrev pub IsMalformedAt : Algorithm → List (List ℕ) → ℕ → Type 0
IsMalformedAt algorithm lines number =
    (line : List ℕ) × IsLine lines number line × ¬ (IsBlank line)
    × ((file : ListedFile) → ¬ (IsEntryLine algorithm line file))
