use Rattle.ledger.proofs.GivenLines.{given_none}
use Rattle.ledger.proofs.journal_lines.JournalLines.new.Goals as goal

pub returns : goal.returns
returns c = given_none c.new.result c.new.ensures
