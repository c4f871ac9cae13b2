use Rattle.std.proofs.Common.{ap, ◌∙◌}
use Rattle.slot_table.specs.Rows.{Rows, row_at}
use Rattle.slot_table.proofs.Ordered.{row_by_order}
use Rattle.slot_table.proofs.slot_table.SlotTable.get.Goals as goal

pub returns : goal.returns
returns g c =
    c.get.ensures.value ∙ row_by_order c.self.inside.rows.entries c.args.slot.now
    ∙ ap (λ (rows : Rows g.row.R.Denot). row_at rows c.args.slot.now) c.self.view_is
