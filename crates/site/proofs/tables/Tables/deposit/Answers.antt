use Rattle.std.proofs.Common.{ap, ◌∙◌}
use Rattle.fed_types.specs.declared.bag_id.BagId.{BagId}
use Rattle.slot_table.specs.Rows.{Rows, row_at}
use Rattle.site.proofs.Deposited.{deposit_at}
use Rattle.site.proofs.Inside.{is_inside}
use Rattle.site.proofs.tables.Tables.deposit.Goals as goal

pub returns : goal.returns
returns c owner records of =
    let is = is_inside c.self.view_is owner records of in
    c.of.ensures
    ∙ ap (λ (rows : Rows BagId). row_at rows c.args.slot.now) is.deposits
    ∙ deposit_at c.args.slot.now records
