-- A comparison as a list of deposits.
use Rattle.std.specs.Prelude.{◌≡◌, ℕ, ◌==◌, false, if◌then◌else◌, List, [], ◌∷◌, ◌++◌, codes}
use Rattle.std.specs.Prelude.{Option, Some, None, All}
use Rattle.std.specs.List.{flat_map, slice_split}
use Rattle.std.specs.Io.KnownBytes.{Appends}
use Rattle.std.specs.Str.{bytes_eq}

-- OBJ V FOLDER, where these words are FOLDER is OBJ V
abbrev pub deposit_of : List (List ℕ) → Option (List ℕ)
deposit_of (folder ∷ verb ∷ object ∷ version ∷ []) =
    if bytes_eq verb (codes "is")
    then Some (object ++ (32 ∷ (version ++ (32 ∷ (folder ++ 10 ∷ [])))))
    else None
deposit_of words = None

-- the words of a line are what its spaces separate
abbrev pub deposit_line : List ℕ → Option (List ℕ)
deposit_line line = deposit_of (slice_split (λ b. b == 32) line)

-- no byte is a line end
abbrev pub IsWithinLine : List ℕ → Type 0
IsWithinLine bytes = All (λ byte. (byte == 10) ≡ false) bytes

-- a line with its end
abbrev pub ended : List ℕ → List ℕ
ended line = line ++ 10 ∷ []

-- what a list of deposits gets of a line
abbrev pub listed_by : Option (List ℕ) → List ℕ
listed_by None = []
listed_by (Some deposit) = deposit

-- what standard error gets of it: each line that is no deposit
abbrev pub unlisted_by : List ℕ → Option (List ℕ) → List ℕ
unlisted_by line None = ended line
unlisted_by line (Some deposit) = []

-- the bytes that two outputs hold, where they are known, and a line that is begun
pub record Outputs : Type 0 where
  pub list : Option (List ℕ)
  pub errors : Option (List ℕ)
  pub begun : List ℕ

-- what was begun and these bytes are some lines with their ends, each of which came to its output,
-- and what is begun now
pub record Divides (before : Outputs) (bytes : List ℕ) (after : Outputs) : Type 0 where
  pub lines : List (List ℕ)
  pub joined : before.begun ++ bytes ≡ flat_map ended lines ++ after.begun
  pub within : All IsWithinLine lines
  pub begun : IsWithinLine after.begun
  pub listed : Appends before.list after.list
      (flat_map (λ line. listed_by (deposit_line line)) lines)
  pub unlisted : Appends before.errors after.errors
      (flat_map (λ line. unlisted_by line (deposit_line line)) lines)
