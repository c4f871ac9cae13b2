use Rattle.std.proofs.Common.{◌≡◌, ◌∙◌, sym, subst, None, OnOk}
use Rattle.fed_types.specs.Slots.{SlotName}
use Rattle.slot_table.specs.Rows.{row_at, IsWith}
use Rattle.slot_table.proofs.Rows.{has_room, put_same, put_there, none_from}
use Rattle.slot_table.proofs.slot_table.SlotTable.reserve.Goals as goal

pub returns-then-has-clause-added : goal.returns-then-has-clause-added
returns-then-has-clause-added g c =
    has_room c.args.empty c.args.self.now c.args.slot.now
    (sym c.has.ensures ∙ c.if-has.true)

pub returns-clause-present : goal.returns-clause-present
returns-clause-present g c =
    put_there c.args.empty c.put.result c.args.self.now c.put.new.self c.args.slot.now
    (subst (λ (key : SlotName).
    OnOk c.put.result (IsWith c.args.self.now c.put.new.self key c.args.empty))
    c.in_ok-key.ensures c.put.ensures.ok)

pub returns-clause-same : goal.returns-clause-same
returns-clause-same g c =
    let none : row_at c.args.self.now c.args.slot.now ≡ None =
    none_from (row_at c.args.self.now c.args.slot.now)
    (sym c.has.ensures ∙ c.if-has.false) in
    put_same c.args.empty c.put.result c.args.self.now c.put.new.self c.args.slot.now none
    (subst (λ (key : SlotName).
    OnOk c.put.result (IsWith c.args.self.now c.put.new.self key c.args.empty))
    c.in_ok-key.ensures c.put.ensures.ok) c.put.ensures.err
