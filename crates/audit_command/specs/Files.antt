-- The files of cells.
use Rattle.std.specs.Prelude.{◌≡◌, ◌<◌, ℕ, zero, suc, Bool, true, false, List, [], ◌++◌, length}
use Rattle.std.specs.Prelude.{take, Option, Some, None}

-- What reading a file gives: its bytes, and whether it ends after them, or else reading fails
-- there. A file that is in use is held by a site, which may not have synced its last records, and
-- may say how many of the first bytes are synced. Another may have some that nobody has synced:
-- whether syncing it succeeds.
pub record FileBytes : Type 0 where
  pub bytes : List ℕ
  pub is_whole : Bool
  pub in_use : Bool
  pub synced : Option ℕ
  pub can_sync : Bool

-- what the files of these paths give, where that is known; none inside where one can't be opened
abbrev pub Files : Type 0
Files = List ℕ → Option (Option FileBytes)

-- the same file, with these bytes left to read
abbrev pub with_bytes : FileBytes → List ℕ → FileBytes
with_bytes file rest = record file { bytes = rest }

-- From a file that gives this, a read into a piece fails; or it gives no bytes, at the end; or it
-- gives the next bytes, and the others come after.
abbrev pub Gives : FileBytes → (piece : List ℕ) → Option ℕ → Option FileBytes → Type 0
Gives file piece None after = (file.bytes ≡ []) × (file.is_whole ≡ false)
Gives file piece (Some zero) after =
    0 < length piece → (file.bytes ≡ []) × (file.is_whole ≡ true)
Gives file piece (Some (suc n)) after =
    (rest : List ℕ) × (file.bytes ≡ take (suc n) piece ++ rest)
    × (after ≡ Some (with_bytes file rest))
