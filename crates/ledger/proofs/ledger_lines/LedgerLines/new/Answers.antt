use Rattle.ledger.specs.Parts.{nothing}
use Rattle.ledger.proofs.Notes.{none_stand}
use Rattle.ledger.proofs.ledger_lines.LedgerLines.new.Goals as goal

pub returns : goal.returns
returns c =
    (nothing, c.new.ensures, rw (c.new-2.ensures.slots, c.new-2.ensures.rows) none_stand)
