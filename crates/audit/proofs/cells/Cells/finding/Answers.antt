use Rattle.std.proofs.Common.{◌≡◌, sym}
use Rattle.fed_types.specs.Quorums.{quorums_of}
use Rattle.slot_table.specs.Rows.{row_of}
use Rattle.audit.specs.inner.Rows.{empty_row}
use Rattle.audit.proofs.Answered.{row_found}
use Rattle.audit.proofs.cells.Cells.finding.Goals as goal

pub returns : goal.returns
returns c given stands =
    let slot = c.args.slot.now in
    let row_is : row_of empty_row c.args.self.now.rows slot ≡ c.row_of.result =
    rw (← c.self.view_is) (sym c.row_of.ensures) in
    rw c.finding.ensures
    (row_found (quorums_of c.args.self.now.members) given slot c.row_of.result
    (rw row_is at (stands.rows slot)))
