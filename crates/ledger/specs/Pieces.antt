-- The lines of a cell whose bytes come in pieces.
use Rattle.std.specs.Prelude.{◌≡◌, ◌⊎◌, Bool, ℕ, List, [], ◌++◌, Option, None, Some}
use Rattle.std.specs.Prelude.{string_bytes}
use Rattle.records.specs.declared.owner.Owner.{Owner}
use Rattle.records.specs.declared.record.Record.{Record}
use Rattle.ledger.specs.declared.ending.Ending.{Ending}
use Rattle.ledger.specs.declared.journal_lines.JournalLines.{JournalLines}
use Rattle.ledger.specs.declared.journal_lines.Lines.{Lines}
use Rattle.ledger.specs.declared.journal_lines.Lines.TheVariants.{More, Last}
use Rattle.ledger.specs.declared.part.Head.{Head}
use Rattle.ledger.specs.declared.part.Part.{Part}
use Rattle.ledger.specs.Cells.{HasNoOwner, Said, IsSaid, Begins}
use Rattle.ledger.specs.Headless.{EndsHeadless}
use Rattle.ledger.specs.Lines.{ending_line, owner_line, records_text, said_text}
use Rattle.ledger.specs.Parts.{Told, HasTold}

-- ---- all lines, and first ones

-- the lines of what the bytes of a cell say
abbrev pub IsCellText : List ℕ → Ending → List ℕ → Type 0
IsCellText bytes ending text =
    (said : Said) × IsSaid bytes said × (said.ending ≡ ending) × (text ≡ said_text said)

-- the line of how bytes end that begin with no whole header
abbrev pub IsHeadlessText : List ℕ → Ending → List ℕ → Type 0
IsHeadlessText bytes ending text =
    HasNoOwner bytes × EndsHeadless bytes ending × (text ≡ ending_line ending)

-- all lines, and how the bytes end
abbrev pub IsWholeText : List ℕ → Ending → List ℕ → Type 0
IsWholeText bytes ending text = IsCellText bytes ending text ⊎ IsHeadlessText bytes ending text

-- the line of a header, and those of records after it
abbrev pub first_text : Owner → Bool → List Record → List ℕ
first_text owner named records = owner_line owner named ++ records_text records

-- none; or the line of a cell's header, and those of some first records of it
abbrev pub AreFirstLines : List ℕ → List ℕ → Type 0
AreFirstLines bytes text =
    (text ≡ [])
    ⊎ ((owner : Owner) × (named : Bool) × (records : List Record)
    × Begins bytes owner named records × (text ≡ first_text owner named records))

-- ---- between two pieces

-- the line of a head, if there is one
abbrev pub head_line : Option Head → List ℕ
head_line None = []
head_line (Some head) = owner_line head.owner head.names_weights

-- the lines of a part
abbrev pub part_text : Part → List ℕ
part_text part = head_line part.head ++ records_text part.records.items

-- the lines of what was told
abbrev pub told_text : Told → List ℕ
told_text told = head_line told.head ++ records_text told.records

-- these lines were given of these bytes
abbrev pub HasGiven : JournalLines → (taken text : List ℕ) → Type 0
HasGiven lines taken text =
    (told : Told) × HasTold lines.reader taken told × (text ≡ told_text told)

-- what one more piece gives: lines, and it goes on; or the last ones, whatever follows
abbrev pub IsTaken : JournalLines → (taken text : List ℕ) → Lines → Type 0
IsTaken lines taken text (More more) = HasGiven lines taken (text ++ string_bytes more)
IsTaken lines taken text (Last last) =
    (more : List ℕ) → IsWholeText (taken ++ more) last.ending (text ++ string_bytes last.text)
