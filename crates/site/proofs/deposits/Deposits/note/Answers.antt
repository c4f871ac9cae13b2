use Rattle.std.proofs.Common.{◌≡◌, None, is_some, sym, ap, subst, ◌∙◌}
use Rattle.fed_types.specs.declared.bag_id.BagId.{BagId}
use Rattle.slot_table.proofs.Rows.{none_from}
use Rattle.slot_table.specs.Rows.{Rows, row_at}
use Rattle.site.specs.inner.Kept.{Kept, AreSame}
use Rattle.site.proofs.Deposited.{kept_push}
use Rattle.site.proofs.deposits.Deposits.note.Goals as goal

pub invariant_of-self : goal.invariant_of-self
invariant_of-self c =
    let none : row_at c.args.self.now.bags c.args.slot ≡ None =
    none_from (row_at c.args.self.now.bags c.args.slot)
    (ap is_some (sym c.of.ensures) ∙ sym c.is_some.ensures ∙ c.if-is_some.false) in
    subst (λ (rows : Rows BagId). AreSame rows c.keep.new.by_slot)
    (sym c.push_reserved.ensures.items)
    (kept_push c.self.inside.in_order.items c.self.inside.by_slot c.keep.new.by_slot c.args.slot
    c.args.bag c.self.invariant
    (ap (λ (k : Kept). row_at k.bags c.args.slot) c.self.view_is ∙ none) c.keep.ensures)
