use Rattle.std.proofs.Common.{◌≡◌, true, not, List, ◌∷◌, [], ◌++◌, sym, ap, ◌∙◌}
use Rattle.slot_table.proofs.Listings.{newly_listed}
use Rattle.deposit_list.specs.declared.deposit.Deposit.{Deposit}
use Rattle.deposit_list.specs.Lists.{slots_of, has_slot}
use Rattle.deposit_list.proofs.Lists.{has_by, slots_both}
use Rattle.deposit_list.proofs.listed_deposits.ListedDeposits.push.Goals as goal

pub returns-then-has-clause-is : goal.returns-then-has-clause-is
returns-then-has-clause-is c =
    ap not (sym c.if-has.true ∙ (c.has.ensures ∙ (has_by c.self.inside.deposits.items
    c.self.inside.slots c.args.deposit.slot c.self.invariant
    ∙ ap (λ (l : List Deposit). has_slot l c.args.deposit.slot) c.self.view_is)))

pub returns-clause-is : goal.returns-clause-is
returns-clause-is c =
    ap not (sym c.if-has.false ∙ (c.has.ensures ∙ (has_by c.self.inside.deposits.items
    c.self.inside.slots c.args.deposit.slot c.self.invariant
    ∙ ap (λ (l : List Deposit). has_slot l c.args.deposit.slot) c.self.view_is)))

pub invariant_of-self-2 : goal.invariant_of-self-2
invariant_of-self-2 c =
    let items : List Deposit = c.self.inside.deposits.items in
    let more : c.push_reserved.new.self.items ≡ items ++ c.args.deposit ∷ [] =
    cc (c.push_reserved.ensures.items, c.in_ok-reserve.ensures.items) in
    rw (more, slots_both items (c.args.deposit ∷ []))
    (newly_listed (slots_of items) c.self.inside.slots c.put.new.self c.args.deposit.slot true
    c.self.invariant (rw c.in_ok-copy.ensures at c.in_ok-put.ensures.ok))
