use Rattle.std.proofs.Common.{refl, sym, ◌∙◌}
use Rattle.site.specs.Calls.{on_propose}
use Rattle.site.specs.inner.Begun.{next_effect}
use Rattle.site.proofs.Refused.{never_needs}
use Rattle.site.proofs.Registered.{some_of, none_of}
use Rattle.site.proofs.member_site.Site.propose.Goals as goal

pub returns-then-is_some-clause-answer : goal.returns-then-is_some-clause-answer
unfolding on_propose
returns-then-is_some-clause-answer g c =
    rw (← c.self.view_is, ← c.known.ensures _ _ c.self.invariant.of)
    (rw ((some_of c.known.result (sym c.if-is_some.ensures)).1)
    (λ opened volatile stands. record { keeps = refl; gives = (refl, stands) }))

pub returns-then-is_some-clause-refused : goal.returns-then-is_some-clause-refused
unfolding on_propose
returns-then-is_some-clause-refused g c =
    rw (← c.self.view_is, ← c.known.ensures _ _ c.self.invariant.of)
    (rw ((some_of c.known.result (sym c.if-is_some.ensures)).1)
    (λ opened volatile stands fault says. cc))

pub returns-in-None-clause-answer : goal.returns-in-None-clause-answer
unfolding on_propose
returns-in-None-clause-answer g c =
    rw (← c.self.view_is, ← c.known.ensures _ _ c.self.invariant.of)
    (rw (none_of c.known.result (sym c.if-is_some.ensures))
    (rw (← c.deposit.ensures _ _ c.self.invariant.of, c.in-None.is)
    (λ opened volatile stands. record { keeps = refl; gives = (refl, stands) })))

pub returns-in-None-clause-refused : goal.returns-in-None-clause-refused
unfolding on_propose
returns-in-None-clause-refused g c =
    rw (← c.self.view_is, ← c.known.ensures _ _ c.self.invariant.of)
    (rw (none_of c.known.result (sym c.if-is_some.ensures))
    (rw (← c.deposit.ensures _ _ c.self.invariant.of, c.in-None.is)
    (λ opened volatile stands fault says. cc)))

pub returns-in-Some-clause-answer : goal.returns-in-Some-clause-answer
unfolding on_propose
returns-in-Some-clause-answer g c =
    rw (← c.self.view_is, ← c.known.ensures _ _ c.self.invariant.of)
    (rw (none_of c.known.result (sym c.if-is_some.ensures))
    (rw (← c.deposit.ensures _ _ c.self.invariant.of, c.in-Some.is)
    (λ opened. rw (← c.self.view_is) at c.start_ballot.ensures.answer)))

pub returns-in-Some-clause-refused : goal.returns-in-Some-clause-refused
unfolding on_propose
returns-in-Some-clause-refused g c =
    rw (← c.self.view_is, ← c.known.ensures _ _ c.self.invariant.of)
    (rw (none_of c.known.result (sym c.if-is_some.ensures))
    (rw (← c.deposit.ensures _ _ c.self.invariant.of, c.in-Some.is)
    (λ opened. rw (← c.self.view_is) at c.start_ballot.ensures.refused)))

pub returns-in-Some-clause-needs_open : goal.returns-in-Some-clause-needs_open
returns-in-Some-clause-needs_open g c =
    never_needs g.C.Cell.device c.self.view_is c.self.invariant.volatile
    (sym c.needs_opening.ensures ∙ c.if-needs_opening.false) c.start_ballot.new.self
    (λ volatile. next_effect c.args.self.now volatile c.args.slot.now) c.start_ballot.result
    c.start_ballot.ensures.answer
