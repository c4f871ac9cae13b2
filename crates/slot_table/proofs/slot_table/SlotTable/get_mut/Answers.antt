use Rattle.std.proofs.Common.{◌≡◌, refl, sym, ap, subst, ◌∙◌, cond, Option, Some, IsSome}
use Rattle.std.specs.Ordering.{eq_by_cmp}
use Rattle.std.proofs.lemmas.Map.Steps.{set_value_same}
use Rattle.fed_types.specs.Slots.{SlotName, same_slot, slot_cmp}
use Rattle.slot_table.specs.Rows.{Rows, row_at}
use Rattle.slot_table.proofs.Ordered.{row_by_order, with_by_order}
use Rattle.slot_table.proofs.slot_table.SlotTable.get_mut.Goals as goal

pub returns : goal.returns
returns g c =
    let slot : SlotName = c.args.slot.now in
    let inside : Rows g.row.R.Denot = c.self.inside.rows.entries in (
      (
        refl,
        (λ w. (
          λ there s.
              with_by_order inside (c.get_mut.follows.lender w).entries slot w
              ((c.get_mut.follows.holds w).3
              (subst (λ (o : Option g.row.R.Denot). IsSome o) (sym (row_by_order inside slot))
              (subst (λ (t : Rows g.row.R.Denot). IsSome (row_at t slot))
              (sym c.self.view_is) there))).0 s
              ∙ ap (λ (t : Rows g.row.R.Denot).
              cond (same_slot slot s) (Some w) (row_at t s)) c.self.view_is,
          λ same.
              (c.get_mut.follows.holds w).0
              ∙ set_value_same (eq_by_cmp slot_cmp slot) inside w
              (row_by_order inside slot
              ∙ subst (λ (t : Rows g.row.R.Denot). row_at t slot ≡ Some w)
              (sym c.self.view_is) same)
              ∙ c.self.view_is,
        )),
        rw c.get_mut.follows.holds-at-none c.self.view_is,
      ),
      record {
        value = c.get_mut.ensures.value ∙ row_by_order inside slot
            ∙ ap (λ (t : Rows g.row.R.Denot). row_at t slot) c.self.view_is;
        writes_back = tt;
      },
    )
