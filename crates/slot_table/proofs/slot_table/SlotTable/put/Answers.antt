use Rattle.std.proofs.Common.{subst}
use Rattle.slot_table.specs.Rows.{Rows, IsWith}
use Rattle.slot_table.proofs.Ordered.{with_by_order}
use Rattle.slot_table.proofs.slot_table.SlotTable.put.Goals as goal

pub returns-in-Ok-clause-ok : goal.returns-in-Ok-clause-ok
returns-in-Ok-clause-ok g c =
    subst (λ (rows : Rows g.row.R.Denot).
    IsWith rows c.insert.new.self.entries c.args.slot c.args.row) c.self.view_is
    (with_by_order c.self.inside.rows.entries c.insert.new.self.entries c.args.slot c.args.row
    c.in-Ok.ensures.updates.0)
