use Rattle.std.proofs.Common.{◌++◌}
use Rattle.std.specs.Prelude.{string_bytes}
use Rattle.ledger.proofs.GivenLines.{lines_last, lines_more}
use Rattle.ledger.proofs.journal_lines.JournalLines.take.Goals as goal

pub returns-in_ok-part_text-in-More : goal.returns-in_ok-part_text-in-More
returns-in_ok-part_text-in-More c = λ taken text given.
    let all = taken ++ c.args.piece.now in
    lines_more c.take.new.self all given.0 c.in-More.part
    (rw c.in-More.is at (c.in_ok-part.ensures taken given.0 given.1))
    text (string_bytes c.in_ok-part_text-in-More.field-0) given.2
    c.in_ok-part_text-in-More.ensures

pub returns-in_ok-last_text-in-Last : goal.returns-in_ok-last_text-in-Last
returns-in_ok-last_text-in-Last c = λ taken text given more.
    let all = taken ++ c.args.piece.now in
    lines_last (all ++ more) given.0 c.in-Last.last
    ((rw c.in-Last.is at (c.in_ok-part.ensures taken given.0 given.1)).1 more)
    text (string_bytes c.in_ok-last_text-in-Last.field-0) given.2
    c.in_ok-last_text-in-Last.ensures
