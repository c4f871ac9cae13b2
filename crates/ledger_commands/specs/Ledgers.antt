-- What the command `ledger` answers.
use Rattle.std.specs.Prelude.{◌≡◌, ℕ, List}
use Rattle.ledger.specs.declared.ending.Ending.{Ending}
use Rattle.ledger.specs.declared.version_filter.VersionFilter.{VersionFilter}
use Rattle.ledger.specs.LedgerPieces.{IsLedgerText}
use Rattle.outcomes.specs.Outcomes.{Outcome}
use Rattle.ledger_commands.specs.Answers.{status_of}

-- the lines of what the bytes of a cell say of its versions, or the line of bytes that begin with
-- no whole header
abbrev pub IsLedger : VersionFilter → List ℕ → Outcome → Type 0
IsLedger wanted bytes outcome =
    (ending : Ending) × IsLedgerText wanted bytes ending outcome.text
    × (outcome.status ≡ status_of ending)
