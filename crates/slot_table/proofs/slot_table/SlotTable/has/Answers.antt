use Rattle.std.proofs.Common.{Option, is_some, ap, ◌∙◌}
use Rattle.slot_table.specs.Rows.{Rows, row_at}
use Rattle.slot_table.proofs.Ordered.{row_by_order}
use Rattle.slot_table.proofs.slot_table.SlotTable.has.Goals as goal

pub returns : goal.returns
returns g c =
    c.contains_key.ensures
    ∙ ap (λ (o : Option g.row.R.Denot). is_some o)
    (row_by_order c.self.inside.rows.entries c.args.slot.now)
    ∙ ap (λ (rows : Rows g.row.R.Denot). is_some (row_at rows c.args.slot.now)) c.self.view_is
