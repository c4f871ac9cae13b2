use Rattle.audit.proofs.Outcomes.{both_ok}
use Rattle.audit.proofs.cells.Cells.note.Goals as goal

pub returns-clause-noted : goal.returns-clause-noted
returns-clause-noted c = both_ok c.fill.result c.fill.ensures.voters c.fill.ensures.rows
    (λ voters rows given stands.
    let was = rw (← c.self.view_is) at stands in
    record { voters = voters given was.voters; rows = rows given was.voters was.rows })
