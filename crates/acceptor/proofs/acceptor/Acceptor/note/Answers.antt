use Rattle.std.proofs.Common.{◌≡◌, ◌∙◌, ap}
use Rattle.slot_table.specs.Rows.{Rows}
use Rattle.acceptor.specs.declared.row.Row.{Row}
use Rattle.acceptor.specs.Rows.{row_of}
use Rattle.acceptor.proofs.Noted.{noted_stands, same_stands}
use Rattle.acceptor.proofs.acceptor.Acceptor.note.Goals as goal

pub returns-clause-noted : goal.returns-clause-noted
returns-clause-noted c records stands =
    noted_stands c.self.inside.table c.note_in.new.table c.args.new.now c.note_in.ensures records
    (same_stands c.args.self.now c.self.inside.table
    (λ slot. ap (λ (t : Rows Row). row_of t slot) c.self.view_is ∙ c.reserve.ensures.same slot)
    records stands)
