-- The lines of the versions of a cell whose bytes come in pieces.
use Rattle.std.specs.Prelude.{◌≡◌, ◌⊎◌, ℕ, List, ◌++◌, Option, Some, None, string_bytes}
use Rattle.ledger.specs.declared.ending.Ending.{Ending}
use Rattle.ledger.specs.declared.journal_lines.LastLines.{LastLines}
use Rattle.ledger.specs.declared.ledger_lines.LedgerLines.{LedgerLines}
use Rattle.ledger.specs.declared.version_filter.VersionFilter.{VersionFilter}
use Rattle.ledger.specs.Cells.{Said, IsSaid}
use Rattle.ledger.specs.Ledgers.{ledger_text}
use Rattle.ledger.specs.Parts.{Told, HasTold}
use Rattle.ledger.specs.Pieces.{IsHeadlessText}
use Rattle.ledger.specs.inner.Rows.{Represents}

-- the lines of what the bytes of a cell say of its versions, and how the bytes end
abbrev pub IsLedgerText : VersionFilter → List ℕ → Ending → List ℕ → Type 0
IsLedgerText wanted bytes ending text =
    ((said : Said) × IsSaid bytes said × (said.ending ≡ ending)
    × (text ≡ ledger_text wanted said))
    ⊎ IsHeadlessText bytes ending text

-- what these bytes say was noted
abbrev pub HasNoted : LedgerLines → List ℕ → Type 0
HasNoted lines taken =
    (told : Told) × HasTold lines.reader taken told
    × Represents lines.versions told.records

-- after one more piece it goes on; or these are all lines, whatever follows
abbrev pub IsNoted : VersionFilter → LedgerLines → (taken : List ℕ) → Option LastLines → Type 0
IsNoted wanted lines taken None = HasNoted lines taken
IsNoted wanted lines taken (Some last) =
    (more : List ℕ) → IsLedgerText wanted (taken ++ more) last.ending (string_bytes last.text)
