use Rattle.std.specs.Prelude.{string_bytes}
use Rattle.ledger_commands.proofs.Listings.{wrote_last, wrote_memory, lines_so_far}
use Rattle.ledger_commands.proofs.journal.write_end.Goals as goal

pub returns-in-Ok : goal.returns-in-Ok
returns-in-Ok g c = λ taken text first given had.
    let contents = g.W.Write.contents in
    let last = c.in-Ok.last in
    wrote_last first (contents c.args.output.now) (contents c.write_last.new.output) text had
    taken last.ending (string_bytes last.text) (c.in-Ok.ensures taken text given)
    c.write_last.result c.write_last.ensures.ok c.write_last.ensures.err

pub returns-in-Err : goal.returns-in-Err
returns-in-Err g c = λ taken text first given had.
    let contents = g.W.Write.contents in
    wrote_memory first (contents c.args.output.now) (contents c.write_output.new.output) text had
    taken (lines_so_far c.args.lines.now taken text given) c.write_output.result
    c.write_output.ensures.ok c.write_output.ensures.err
