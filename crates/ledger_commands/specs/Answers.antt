-- What a command over the bytes of a cell ends with.
use Rattle.std.specs.Prelude.{◌⊎◌, ℕ, List}
use Rattle.ledger.specs.declared.ending.Ending.{Ending}
use Rattle.ledger.specs.declared.ending.Ending.TheVariants.{Whole, Torn, Damaged}
use Rattle.outcomes.specs.Outcomes.{Outcome, no_memory}

-- the exit status is that of an opening
abbrev pub status_of : Ending → ℕ
status_of Whole = 0
status_of (Torn count) = 0
status_of (Damaged place) = 1

-- how the command may end, and what is then written: its answer, or that memory ran out
abbrev pub AnswersTo : (List ℕ → Outcome → Type 0) → List ℕ → (Outcome → Type 0) → Type 0
AnswersTo Is bytes P = ((outcome : Outcome) × Is bytes outcome × P outcome) ⊎ P no_memory
