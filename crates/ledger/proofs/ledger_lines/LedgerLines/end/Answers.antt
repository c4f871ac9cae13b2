use Rattle.ledger.proofs.NotedVersions.{noted_end}
use Rattle.ledger.proofs.ledger_lines.LedgerLines.end.Goals as goal

pub returns : goal.returns
returns c =
    noted_end c.args.wanted c.args.self.now c.in_ok-last.last c.last_lines.result
    c.last_lines.ensures.ending c.last_lines.ensures.text c.in_ok-last.ensures
