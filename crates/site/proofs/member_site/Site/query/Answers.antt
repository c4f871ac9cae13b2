use Rattle.site.specs.Calls.{reply_of}
use Rattle.site.proofs.member_site.Site.query.Goals as goal

pub returns-in-Some-clause-reply : goal.returns-in-Some-clause-reply
unfolding reply_of
returns-in-Some-clause-reply g c is =
    rw (← c.self.view_is, ← c.known.ensures _ _ c.self.invariant.of, c.in-Some.is)

pub returns-in-Some-deposit-clause-reply : goal.returns-in-Some-deposit-clause-reply
unfolding reply_of
returns-in-Some-deposit-clause-reply g c is =
    rw (← c.self.view_is, ← c.known.ensures _ _ c.self.invariant.of, c.in-None.is)
    (rw (← c.deposit.ensures _ _ c.self.invariant.of, c.in-Some-deposit.is))

pub returns-in-None-deposit-clause-reply : goal.returns-in-None-deposit-clause-reply
unfolding reply_of
returns-in-None-deposit-clause-reply g c is =
    rw (← c.self.view_is, ← c.known.ensures _ _ c.self.invariant.of, c.in-None.is)
    (rw (← c.deposit.ensures _ _ c.self.invariant.of, c.in-None-deposit.is))
