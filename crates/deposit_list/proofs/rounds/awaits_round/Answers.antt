use Rattle.std.proofs.Common.{◌∙◌, sym}
use Rattle.deposit_list.proofs.Asking.{is_first, nothing_left, some_left}
use Rattle.deposit_list.proofs.rounds.awaits_round.Goals as goal

pub returns-then-rounds-eq0 : goal.returns-then-rounds-eq0
returns-then-rounds-eq0 g c =
    is_first c.args.deadline c.args.rounds c.args.entries.now _ c.if-rounds-eq0.true

pub returns-then-are_settled : goal.returns-then-are_settled
returns-then-are_settled g c =
    nothing_left c.args.deadline c.args.rounds c.args.entries.now c.if-rounds-eq0.false _
    (sym c.are_settled.ensures ∙ c.if-are_settled.true)

pub returns : goal.returns
returns g c =
    some_left c.args.deadline c.args.rounds c.args.entries.now c.if-rounds-eq0.false _ _
    c.waits_for_round.result (sym c.are_settled.ensures ∙ c.if-are_settled.false)
    c.waits_for_round.ensures
