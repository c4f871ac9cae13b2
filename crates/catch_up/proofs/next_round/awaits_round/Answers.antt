use Rattle.std.proofs.Common.{inl}
use Rattle.catch_up.proofs.Paces.{Beats-none, none_left, some_left}
use Rattle.catch_up.proofs.next_round.awaits_round.Goals as goal

pub returns-then-rounds-eq0 : goal.returns-then-rounds-eq0
returns-then-rounds-eq0 g c = inl (c.if-rounds-eq0.true, Beats-none _)

pub returns-then-are_all_known : goal.returns-then-are_all_known
returns-then-are_all_known g c =
    none_left c.args.seconds c.args.versions.now c.args.rounds c.if-rounds-eq0.false _
    c.are_all_known.ensures c.if-are_all_known.true _

pub returns : goal.returns
returns g c =
    some_left c.args.seconds c.args.versions.now c.args.rounds c.if-rounds-eq0.false _
    c.are_all_known.ensures c.if-are_all_known.false _ _ c.waits_for_round.result
    (rw c.from.ensures at c.waits_for_round.ensures)
