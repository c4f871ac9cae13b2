-- The lines of versions that were noted piece by piece.
use Rattle.std.proofs.Common.{◌≡◌, ℕ, List, [], ◌++◌, refl, inl, inr}
use Rattle.std.specs.Prelude.{string_bytes, IfOk, Result, Ok, Err}
use Rattle.std.specs.declared.alloc.AllocError.{AllocError}
use Rattle.records.specs.declared.record.Record.{Record}
use Rattle.ledger.specs.declared.ending.Ending.{Ending}
use Rattle.ledger.specs.declared.journal_lines.LastLines.{LastLines}
use Rattle.ledger.specs.declared.ledger_lines.LedgerLines.{LedgerLines}
use Rattle.ledger.specs.declared.version_filter.VersionFilter.{VersionFilter}
use Rattle.ledger.specs.declared.part.LastPart.{LastPart}
use Rattle.ledger.specs.LedgerPieces.{HasNoted, IsLedgerText}
use Rattle.ledger.specs.Ledgers.{versions_text, ledger_text}
use Rattle.ledger.specs.Lines.{ending_line}
use Rattle.ledger.specs.Parts.{Told, and_part, HasTold, IsWhole, TellsLast}
use Rattle.ledger.specs.Versions.{slots_of}
use Rattle.ledger.specs.inner.Rows.{Represents}

no_versions : (wanted : VersionFilter) → versions_text wanted [] ≡ []
unfolding versions_text slots_of
no_versions wanted = refl

text_of_all : (wanted : VersionFilter) (bytes : List ℕ) (told : Told) (ending : Ending)
    (text : List ℕ)
    → IsWhole bytes told ending
    → text ≡ versions_text wanted told.records ++ ending_line ending
    → IsLedgerText wanted bytes ending text
unfolding ledger_text
text_of_all wanted bytes told ending text (inl (said, is, e, t)) lines =
    inl (said, is, e, rw (lines, t, ← e) refl)
text_of_all wanted bytes told ending text (inr (none, ends, t)) lines =
    inr (none, ends, rw (lines, t, no_versions wanted) refl)

-- the lines after the last part
module _ (wanted : VersionFilter) (lines : LedgerLines) (last : LastPart) where
  pub noted_last : (it : LastLines) → it.ending ≡ last.ending
      → ((before : List Record) → Represents lines.versions before
      → string_bytes it.text ≡ versions_text wanted (before ++ last.part.records.items)
      ++ ending_line last.ending)
      → (taken bytes : List ℕ) → (noted : HasNoted lines taken) → TellsLast bytes noted.0 last
      → IsLedgerText wanted bytes it.ending (string_bytes it.text)
  noted_last it e text taken bytes noted tells =
      rw e
      (text_of_all wanted bytes (and_part noted.0 last.part) last.ending (string_bytes it.text)
      tells.1 (text noted.0.records noted.2))

  pub noted_end : (result : Result LastLines AllocError)
      → IfOk result (λ it. it.ending ≡ last.ending)
      → IfOk result (λ it. (before : List Record) → Represents lines.versions before
      → string_bytes it.text ≡ versions_text wanted (before ++ last.part.records.items)
      ++ ending_line last.ending)
      → ((taken : List ℕ) (told : Told) → HasTold lines.reader taken told
      → TellsLast taken told last)
      → IfOk result (λ it. (taken : List ℕ) → HasNoted lines taken
      → IsLedgerText wanted taken it.ending (string_bytes it.text))
  noted_end (Err fault) e text tells = tt
  noted_end (Ok it) e text tells = λ taken noted.
      noted_last it e text taken taken noted (tells taken noted.0 noted.1)
