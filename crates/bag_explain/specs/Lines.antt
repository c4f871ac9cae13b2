-- The lines of a manifest, each with its number.
use Rattle.std.specs.Prelude.{ℕ, ◌+◌, List, [], ◌∷◌, ◌++◌, Result, Ok, Err}
use Rattle.bag_text.specs.declared.algorithm.Algorithm.{Algorithm}
use Rattle.bag_text.specs.ListedFile.{ListedFile}
use Rattle.bag_text.specs.Readers.{entries_of}

-- a line that lists a file: its number, and the file
pub record NumberedFile : Type 0 where
  pub line : ℕ
  pub file : ListedFile

-- what the line of this number lists, from what it says as a text by itself: no file where it is
-- blank, and else one, unless it is malformed
abbrev pub numbered : ℕ → Result (List ListedFile) ℕ → List NumberedFile
numbered number (Ok []) = []
numbered number (Ok (file ∷ others)) = record { line = number; file = file } ∷ []
numbered number (Err line) = []

-- the number, where the line is malformed
abbrev pub if_malformed : ℕ → Result (List ListedFile) ℕ → List ℕ
if_malformed number (Ok files) = []
if_malformed number (Err line) = number ∷ []

-- what the lines list, if the first of them has this number
unfoldable pub numbered_from : Algorithm → ℕ → List (List ℕ) → List NumberedFile
numbered_from algorithm number [] = []
numbered_from algorithm number (line ∷ lines) =
    numbered number (entries_of algorithm line) ++ numbered_from algorithm (number + 1) lines

-- the numbers of the malformed lines among them
unfoldable pub malformed_from : Algorithm → ℕ → List (List ℕ) → List ℕ
malformed_from algorithm number [] = []
malformed_from algorithm number (line ∷ lines) =
    if_malformed number (entries_of algorithm line) ++ malformed_from algorithm (number + 1) lines
