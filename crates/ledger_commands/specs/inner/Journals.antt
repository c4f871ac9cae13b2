-- What the steps of the command `journal` answer.
use Rattle.std.specs.Prelude.{ℕ, List, ◌++◌, Option, Some, None, Result, Ok, Err}
use Rattle.std.specs.Io.KnownBytes.{Appends}
use Rattle.ledger.specs.declared.journal_lines.JournalLines.{JournalLines}
use Rattle.ledger.specs.Pieces.{HasGiven}
use Rattle.outcomes.specs.declared.fault.ProgramFault.{ProgramFault}
use Rattle.outcomes.specs.declared.fault.ProgramFault.TheVariants.{Input, Output}
use Rattle.ledger_commands.specs.Journals.{IsListed, IsPartOfListing}

-- what was written, where the cell ends
abbrev pub IsAfterEnd : List ℕ → (first new : Option (List ℕ)) → Result ℕ ProgramFault → Type 0
IsAfterEnd bytes first new (Ok status) = IsListed first new status bytes
IsAfterEnd bytes first new (Err Output) = IsPartOfListing first new bytes
IsAfterEnd bytes first new (Err Input) = ⊥

-- what was written after a piece of the cell: the lines so far; or all, whatever follows
abbrev pub IsAfterPiece : List ℕ → JournalLines → (first new : Option (List ℕ))
    → Result (Option ℕ) ProgramFault → Type 0
IsAfterPiece taken lines first new (Ok None) =
    (text : List ℕ) × HasGiven lines taken text × Appends first new text
IsAfterPiece taken lines first new (Ok (Some status)) =
    (more : List ℕ) → IsListed first new status (taken ++ more)
IsAfterPiece taken lines first new (Err Output) =
    (more : List ℕ) → IsPartOfListing first new (taken ++ more)
IsAfterPiece taken lines first new (Err Input) = ⊥

-- the status, if there is one
abbrev pub some_status : Result ℕ ProgramFault → Result (Option ℕ) ProgramFault
some_status (Ok status) = Ok (Some status)
some_status (Err fault) = Err fault
