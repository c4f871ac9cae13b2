-- What the command `journal` answers.
use Rattle.std.specs.Prelude.{◌≡◌, ◌⊎◌, ℕ, List, ◌++◌, Option}
use Rattle.std.specs.Io.KnownBytes.{Appends}
use Rattle.ledger.specs.declared.ending.Ending.{Ending}
use Rattle.ledger.specs.Pieces.{AreFirstLines, IsWholeText}
use Rattle.outcomes.specs.Outcomes.{Outcome, no_memory, Writes, WritesPrefix}
use Rattle.ledger_commands.specs.Answers.{status_of}

-- the lines of what the bytes of a cell say, or the line of bytes that begin with no whole header
abbrev pub IsJournal : List ℕ → Outcome → Type 0
IsJournal bytes outcome =
    (ending : Ending) × IsWholeText bytes ending outcome.text
    × (outcome.status ≡ status_of ending)

-- if memory ran out: some first lines of the cell, or none, and the line `memory`
abbrev pub IsCutShort : List ℕ → Outcome → Type 0
IsCutShort bytes outcome =
    (lines : List ℕ) × AreFirstLines bytes lines
    × (outcome.status ≡ no_memory.status) × (outcome.text ≡ lines ++ no_memory.text)

-- what the command may end with
abbrev pub IsListing : List ℕ → Outcome → Type 0
IsListing bytes outcome = IsJournal bytes outcome ⊎ IsCutShort bytes outcome

-- a writer took all of it, and the status is its own
abbrev pub IsListed : (old new : Option (List ℕ)) → ℕ → List ℕ → Type 0
IsListed old new status bytes =
    (outcome : Outcome) × IsListing bytes outcome × Writes old new status outcome

-- a writer took a prefix of it
abbrev pub IsPartOfListing : (old new : Option (List ℕ)) → List ℕ → Type 0
IsPartOfListing old new bytes =
    (outcome : Outcome) × IsListing bytes outcome × WritesPrefix old new outcome

-- a writer took some first lines of the cell, or none
abbrev pub HasFirstLines : (old new : Option (List ℕ)) → List ℕ → Type 0
HasFirstLines old new bytes =
    (lines : List ℕ) × AreFirstLines bytes lines × Appends old new lines
