use Rattle.std.proofs.Common.{◌++◌}
use Rattle.ledger.proofs.NotedVersions.{noted_last}
use Rattle.ledger.proofs.ledger_lines.LedgerLines.take.Goals as goal

pub returns-in_ok-last_lines-in-Last : goal.returns-in_ok-last_lines-in-Last
returns-in_ok-last_lines-in-Last c = λ taken noted more.
    let all = taken ++ c.args.piece.now in
    let it = c.in_ok-last_lines-in-Last in
    noted_last c.args.wanted c.args.self.now c.in-Last.last it.field-0 it.ensures.ending
    it.ensures.text taken (all ++ more) noted
    ((rw c.in-Last.is at (c.in_ok-part.ensures taken noted.0 noted.1)).1 more)
