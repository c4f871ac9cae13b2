-- The lines of what a cell says, piece by piece.
use Rattle.std.proofs.Common.{◌≡◌, ℕ, List, [], ◌++◌, Option, None, Some, true, refl, sym}
use Rattle.std.proofs.Common.{inl, inr, append_assoc}
use Rattle.std.proofs.lemmas.Grind.{flat_map-append}
use Rattle.std.specs.Option.{option_or}
use Rattle.records.specs.declared.owner.Owner.{Owner}
use Rattle.records.specs.declared.record.Record.{Record}
use Rattle.records.specs.Starts.{records_of}
use Rattle.ledger.specs.declared.cell_reader.CellReader.{CellReader}
use Rattle.ledger.specs.declared.ending.Ending.{Ending}
use Rattle.ledger.specs.declared.journal_lines.JournalLines.{JournalLines}
use Rattle.ledger.specs.declared.part.Head.{Head}
use Rattle.ledger.specs.declared.part.LastPart.{LastPart}
use Rattle.ledger.specs.declared.part.Part.{Part}
use Rattle.ledger.specs.Lines.{ending_line, record_line, records_text, said_text}
use Rattle.ledger.specs.Parts.{Told, nothing, and_part, IsWhole, HasToldBy, HasTold, Fits}
use Rattle.ledger.specs.Parts.{TellsLast}
use Rattle.ledger.specs.Pieces.{AreFirstLines, IsWholeText, part_text, told_text}
use Rattle.ledger.specs.Pieces.{HasGiven}
use Rattle.ledger.proofs.ToldParts.{longer_reached}

both_lines : (rs ss : List Record) → records_text (rs ++ ss) ≡ records_text rs ++ records_text ss
unfolding records_text
both_lines rs ss = flat_map-append record_line rs ss

no_lines : told_text nothing ≡ []
unfolding records_text
no_lines = refl

or_none : (h p : Option Head) → p ≡ None → option_or h p ≡ h
or_none None p none = none
or_none (Some head) p none = refl

-- the lines of a part come after those of what was told
parts_text : (told : Told) (part : Part) → Fits told part
    → told_text (and_part told part) ≡ told_text told ++ part_text part
parts_text told part (inl none) = rw (none, no_lines) refl
parts_text told part (inr none) = rw (
  or_none told.head part.head none,
  none,
  both_lines told.records part.records.items,
  append_assoc,
) refl

-- all lines
whole_text : (bytes : List ℕ) (told : Told) (ending : Ending) → IsWhole bytes told ending
    → IsWholeText bytes ending (told_text told ++ ending_line ending)
unfolding said_text
whole_text bytes told ending (inl (said, is, e, t)) =
    inl (said, is, e, rw (t, ← e, append_assoc) refl)
whole_text bytes told ending (inr (none, ends, t)) = inr (none, ends, rw (t, no_lines) refl)

-- the last ones
pub lines_last : (taken : List ℕ) (told : Told) (last : LastPart) → TellsLast taken told last
    → (text lines : List ℕ) → text ≡ told_text told
    → lines ≡ part_text last.part ++ ending_line last.ending
    → IsWholeText taken last.ending (text ++ lines)
lines_last taken told last h text lines e is =
    let end = ending_line last.ending in
    rw (
      e,
      is,
      ← append_assoc (told_text told) (part_text last.part) end,
      ← parts_text told last.part h.0,
    )
    (whole_text taken (and_part told last.part) last.ending h.1)

-- some more
pub lines_more : (reader : CellReader) (taken : List ℕ) (told : Told) (part : Part)
    → Fits told part × HasTold reader taken (and_part told part)
    → (text lines : List ℕ) → text ≡ told_text told → lines ≡ part_text part
    → (all : Told) × HasTold reader taken all × (text ++ lines ≡ told_text all)
lines_more reader taken told part h text lines e is =
    (and_part told part, h.1, rw (e, is) (sym (parts_text told part h.0)))

-- none yet
pub given_none : (reader : CellReader) → HasTold reader [] nothing
    → (told : Told) × HasTold reader [] told × ([] ≡ told_text told)
given_none reader h = (nothing, h, sym no_lines)

first_told : (o : Option Owner) (passed : ℕ) (kept taken : List ℕ) (told : Told) (more : List ℕ)
    → HasToldBy o passed kept taken told → AreFirstLines (taken ++ more) (told_text told)
first_told None passed kept taken told more h = inl (rw (h.1, no_lines) refl)
first_told (Some owner) passed kept taken told more h =
    inr (
      owner,
      true,
      records_of h.start h.records,
      record {
        start = h.start;
        records = h.records;
        rest = kept ++ more;
        owner_is = h.owner_is;
        reaches = longer_reached owner taken h.start h.records kept more h.reaches;
        all_are = refl;
        weights_are = h.weights_are;
      },
      rw (h.head_is, h.told_is) refl,
    )

-- these are first lines of the cell, whatever follows
pub first_given : (lines : JournalLines) (taken text more : List ℕ) → HasGiven lines taken text
    → AreFirstLines (taken ++ more) text
first_given lines taken text more h =
    let reader = lines.reader in
    rw h.2 (first_told reader.owner reader.passed reader.bytes.items taken h.0 more h.1)
