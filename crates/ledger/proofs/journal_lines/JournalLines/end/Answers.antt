use Rattle.ledger.proofs.GivenLines.{lines_last}
use Rattle.std.specs.Prelude.{string_bytes}
use Rattle.ledger.proofs.journal_lines.JournalLines.end.Goals as goal

pub returns : goal.returns
returns c = λ taken text given.
    let last = c.in_ok-last.last in
    lines_last taken given.0 last (c.in_ok-last.ensures taken given.0 given.1) text
    (string_bytes c.in_ok-last_text.field-0) given.2 c.in_ok-last_text.ensures
