-- The text of a payload or tag manifest (RFC 8493, 2.1.3 and 2.2.1).
use Rattle.std.specs.Prelude.{◌≡◌, ℕ, ◌+◌, List, [], ◌∷◌, ◌++◌, length, Ok, IsTrue}
use Rattle.std.specs.Str.{IsUtf8}
use Rattle.hex.specs.Hex.{decode_of}
use Rattle.bag_text.specs.declared.algorithm.Algorithm.{Algorithm}
use Rattle.bag_text.specs.Algorithms.{hex_len}
use Rattle.bag_text.specs.Lines.{lines_of}
use Rattle.bag_text.specs.Blanks.{IsBlank, IsGap, starts_nonblank}
use Rattle.bag_text.specs.Paths.{path_of}
use Rattle.bag_text.specs.ListedFile.{ListedFile}

-- The three parts of a line list the file: the hex digits, of either case, of a digest of the
-- algorithm's length; one or more spaces or tabs; and the path as it is written, which begins with
-- neither and has to be UTF-8.
pub record Lists (algorithm : Algorithm) (digits gap written : List ℕ)
    (file : ListedFile) : Type 0 where
  pub whole : length digits ≡ hex_len algorithm
  pub digest : decode_of digits ≡ Ok file.digest
  pub between : IsGap gap
  pub begins : IsTrue (starts_nonblank written)
  pub path : file.path ≡ path_of written
  pub text : IsUtf8 file.path

-- the line lists the file
abbrev pub IsEntryLine : Algorithm → List ℕ → ListedFile → Type 0
IsEntryLine algorithm line file =
    (digits : List ℕ) × (gap : List ℕ) × (written : List ℕ) × (line ≡ digits ++ (gap ++ written))
    × Lists algorithm digits gap written file

-- The lines list the files, one after the other, where lines of spaces and tabs alone, or of
-- nothing, are skipped.
pub data ListsAll (algorithm : Algorithm) : List (List ℕ) → List ListedFile → Type 0 where
  none_left : ListsAll algorithm [] []
  skipped : (line : List ℕ) (lines : List (List ℕ)) (files : List ListedFile) → IsBlank line
      → ListsAll algorithm lines files → ListsAll algorithm (line ∷ lines) files
  listed : (line : List ℕ) (file : ListedFile) (lines : List (List ℕ)) (files : List ListedFile)
      → IsEntryLine algorithm line file → ListsAll algorithm lines files
      → ListsAll algorithm (line ∷ lines) (file ∷ files)

-- The text is a manifest of the algorithm that lists the files, in order.
abbrev pub IsManifest : Algorithm → List ℕ → List ListedFile → Type 0
IsManifest algorithm text files = ListsAll algorithm (lines_of text) files

-- The line of this number, counted from 1 over all lines, is the first that neither is blank nor
-- lists a file.
abbrev pub IsFirstMalformed : Algorithm → List (List ℕ) → ℕ → Type 0
IsFirstMalformed algorithm lines number =
    (before : List (List ℕ)) × (line : List ℕ) × (after : List (List ℕ)) × (files : List ListedFile)
    × (lines ≡ before ++ (line ∷ after)) × (number ≡ length before + 1)
    × ListsAll algorithm before files
    × (¬ (IsBlank line)) × ((file : ListedFile) → ¬ (IsEntryLine algorithm line file))
