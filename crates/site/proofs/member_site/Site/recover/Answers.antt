use Rattle.std.proofs.Common.{refl, sym, ◌∙◌}
use Rattle.site.specs.Calls.{on_recover}
use Rattle.site.specs.inner.Begun.{next_effect}
use Rattle.site.proofs.Refused.{never_needs}
use Rattle.site.proofs.Registered.{some_of, none_of}
use Rattle.site.proofs.member_site.Site.recover.Goals as goal

pub returns-then-is_some-clause-answer : goal.returns-then-is_some-clause-answer
unfolding on_recover
returns-then-is_some-clause-answer g c =
    rw (← c.self.view_is, ← c.known.ensures _ _ c.self.invariant.of)
    (rw ((some_of c.known.result (sym c.if-is_some.ensures)).1)
    (λ opened volatile stands. record { keeps = refl; gives = (refl, stands) }))

pub returns-then-is_some-clause-refused : goal.returns-then-is_some-clause-refused
unfolding on_recover
returns-then-is_some-clause-refused g c =
    rw (← c.self.view_is, ← c.known.ensures _ _ c.self.invariant.of)
    (rw ((some_of c.known.result (sym c.if-is_some.ensures)).1)
    (λ opened volatile stands fault says. cc))

pub returns-then-has_vote_or_deposit-clause-answer :
    goal.returns-then-has_vote_or_deposit-clause-answer
unfolding on_recover
returns-then-has_vote_or_deposit-clause-answer g c =
    rw (← c.self.view_is, ← c.known.ensures _ _ c.self.invariant.of)
    (rw (none_of c.known.result (sym c.if-is_some.ensures))
    (rw (rw (← c.self.view_is) at (sym c.if-has_vote_or_deposit.ensures))
    (λ opened. rw (← c.self.view_is) at c.start_ballot.ensures.answer)))

pub returns-then-has_vote_or_deposit-clause-refused :
    goal.returns-then-has_vote_or_deposit-clause-refused
unfolding on_recover
returns-then-has_vote_or_deposit-clause-refused g c =
    rw (← c.self.view_is, ← c.known.ensures _ _ c.self.invariant.of)
    (rw (none_of c.known.result (sym c.if-is_some.ensures))
    (rw (rw (← c.self.view_is) at (sym c.if-has_vote_or_deposit.ensures))
    (λ opened. rw (← c.self.view_is) at c.start_ballot.ensures.refused)))

pub returns-then-has_vote_or_deposit-clause-needs_open :
    goal.returns-then-has_vote_or_deposit-clause-needs_open
returns-then-has_vote_or_deposit-clause-needs_open g c =
    never_needs g.C.Cell.device c.self.view_is c.self.invariant.volatile
    (sym c.needs_opening.ensures ∙ c.if-needs_opening.false) c.start_ballot.new.self
    (λ volatile. next_effect c.args.self.now volatile c.args.slot.now) c.start_ballot.result
    c.start_ballot.ensures.answer

pub returns-else-has_vote_or_deposit-clause-answer :
    goal.returns-else-has_vote_or_deposit-clause-answer
unfolding on_recover
returns-else-has_vote_or_deposit-clause-answer g c =
    rw (← c.self.view_is, ← c.known.ensures _ _ c.self.invariant.of)
    (rw (none_of c.known.result (sym c.if-is_some.ensures))
    (rw (rw (← c.self.view_is) at (sym c.if-has_vote_or_deposit.ensures))
    (λ opened volatile stands. record { keeps = refl; gives = (refl, stands) })))

pub returns-else-has_vote_or_deposit-clause-refused :
    goal.returns-else-has_vote_or_deposit-clause-refused
unfolding on_recover
returns-else-has_vote_or_deposit-clause-refused g c =
    rw (← c.self.view_is, ← c.known.ensures _ _ c.self.invariant.of)
    (rw (none_of c.known.result (sym c.if-is_some.ensures))
    (rw (rw (← c.self.view_is) at (sym c.if-has_vote_or_deposit.ensures))
    (λ opened volatile stands fault says. cc)))
