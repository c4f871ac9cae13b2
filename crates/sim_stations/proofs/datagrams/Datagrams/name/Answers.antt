use Rattle.std.proofs.Common.{◌≤◌, length}
use Rattle.sim_stations.proofs.Named.{named_mark, named_other, named_stays, named_more}
use Rattle.sim_stations.proofs.Ordered.{more_by_order}
use Rattle.sim_stations.proofs.datagrams.Datagrams.name.Goals as goal

pub invariant_of-self : goal.invariant_of-self
invariant_of-self g c =
    let within : c.args.number ≤ length c.self.inside.marks.items =
    rw (← c.self.inside.marks.ok.0, ← c.len.ensures) c.if-number-len.true in
    named_stays c.self.inside.marks.items _ c.self.inside.others.keys _ c.args.number _
    (λ k. named_mark _ _ _ k c.if-number-ge1.true within) c.self.invariant

pub returns-then-number-len-clause-ok : goal.returns-then-number-len-clause-ok
returns-then-number-len-clause-ok g c named stands k =
    let within : c.args.number ≤ length c.self.inside.marks.items =
    rw (← c.self.inside.marks.ok.0, ← c.len.ensures) c.if-number-len.true in
    named_more named c.args.number k _ _ (named_mark _ _ _ k c.if-number-ge1.true within)
    (rw (← c.self.view_is) at (stands k))

pub invariant_of-self-2 : goal.invariant_of-self-2
invariant_of-self-2 g c =
    named_stays c.self.inside.marks.items _ c.self.inside.others.keys _ c.args.number _
    (λ k. named_other _ _ _ _ k (more_by_order _ _ _ c.in_ok-insert.ensures.updates.0 k))
    c.self.invariant

pub returns-clause-ok : goal.returns-clause-ok
returns-clause-ok g c named stands k =
    named_more named c.args.number k _ _
    (named_other _ c.self.inside.others.keys _ _ k
    (more_by_order _ _ _ c.in_ok-insert.ensures.updates.0 k))
    (rw (← c.self.view_is) at (stands k))
