-- How a command of the program ends.
use Rattle.std.specs.Prelude.{◌≡◌, ℕ, List, [], ◌∷◌, ◌++◌, take, Option, codes}
use Rattle.std.specs.Io.KnownBytes.{Appends}

-- an exit status, and what is written
pub record Outcome : Type 0 where
  pub status : ℕ
  pub text : List ℕ

-- the outcome where memory ran out
abbrev pub no_memory : Outcome
no_memory = record { status = 1; text = codes "memory" ++ 10 ∷ [] }

-- a writer took the whole text of the outcome, and the status is its own
abbrev pub Writes : Option (List ℕ) → Option (List ℕ) → ℕ → Outcome → Type 0
Writes old new status outcome = (status ≡ outcome.status) × Appends old new outcome.text

-- a writer took a prefix of the outcome's text
abbrev pub WritesPrefix : Option (List ℕ) → Option (List ℕ) → Outcome → Type 0
WritesPrefix old new outcome = (n : ℕ) × Appends old new (take n outcome.text)
