-- What is said of a cell that isn't read.
use Rattle.std.specs.Prelude.{◌≡◌, ◌≢◌, ℕ, List, ◌++◌, codes, Option, IfSome}
use Rattle.std.specs.declared.io.ErrorKind.{ErrorKind}
use Rattle.std.specs.declared.io.ErrorKind.TheVariants.{NotFound, PermissionDenied, InvalidInput}

-- P holds of the words that say why: by the kind of the error that came, or else by what the error
-- says, where that is known
abbrev pub Explains : ErrorKind → Option (List ℕ) → (List ℕ → Type 0) → Type 0
Explains kind says P =
    (kind ≡ NotFound → P (codes " isn't there"))
    × (kind ≡ PermissionDenied → P (codes " may not be opened by this user"))
    × (kind ≡ InvalidInput → P (codes " isn't a file, as a cell is"))
    × (kind ≢ NotFound → kind ≢ PermissionDenied → kind ≢ InvalidInput → IfSome says (λ words.
    P (codes " can't be opened or synced, and isn't counted: " ++ words)))
