use Rattle.std.proofs.Common.{◌≡◌, OnOk, List, ◌∷◌, [], ◌++◌, sym, ap, subst, ◌∙◌}
use Rattle.fed_types.specs.Slots.{SlotName}
use Rattle.slot_table.specs.Listings.{AreListed}
use Rattle.slot_table.specs.Rows.{IsWith}
use Rattle.slot_table.proofs.Listings.{newly_listed, still_listed_after}
use Rattle.slot_table.proofs.listed_rows.ListedRows.put.Goals as goal

pub invariant_of-self-then-has : goal.invariant_of-self-then-has
invariant_of-self-then-has g c =
    still_listed_after c.put.result c.self.inside.slots.items c.self.inside.rows c.put.new.self
    c.args.slot.now c.args.row c.self.invariant (sym c.has.ensures ∙ c.if-has.true)
    (subst (λ (key : SlotName).
    OnOk c.put.result (IsWith c.self.inside.rows c.put.new.self key c.args.row))
    c.in_ok-copy.ensures c.put.ensures.ok) c.put.ensures.err

pub invariant_of-self-2 : goal.invariant_of-self-2
invariant_of-self-2 g c =
    let slot : SlotName = c.args.slot.now in
    let slots : List SlotName = c.self.inside.slots.items in
    let more : c.push_reserved.new.self.items ≡ slots ++ slot ∷ [] =
    c.push_reserved.ensures.items
    ∙ ap (λ (before : List SlotName). before ++ c.in_ok-listed.listed ∷ [])
    c.in_ok-reserve.ensures.items
    ∙ ap (λ (s : SlotName). slots ++ s ∷ []) c.in_ok-listed.ensures in
    subst (λ (listed : List SlotName). AreListed listed c.put-2.new.self) (sym more)
    (newly_listed slots c.self.inside.rows c.put-2.new.self slot c.args.row c.self.invariant
    (subst (λ (key : SlotName). IsWith c.self.inside.rows c.put-2.new.self key c.args.row)
    c.in_ok-copy-2.ensures c.in_ok-put.ensures.ok))
