use Rattle.sim_stations.proofs.Named.{named_push}
use Rattle.sim_stations.proofs.datagrams.Datagrams.push.Goals as goal

pub invariant_of-self-in_err-push-2 : goal.invariant_of-self-in_err-push-2
invariant_of-self-in_err-push-2 g c k one within =
    rw (c.in_ok-push.ensures.items, named_push) (c.self.invariant k one within)

pub returns-in_err-push-2-clause-named : goal.returns-in_err-push-2-clause-named
returns-in_err-push-2-clause-named g c named stands k =
    rw (c.in_ok-push.ensures.items, named_push) (rw (← c.self.view_is) at (stands k))

pub invariant_of-self-2 : goal.invariant_of-self-2
invariant_of-self-2 g c k one within =
    rw (c.in_ok-push.ensures.items, named_push) (c.self.invariant k one within)

pub returns-clause-named : goal.returns-clause-named
returns-clause-named g c named stands k =
    rw (c.in_ok-push.ensures.items, named_push) (rw (← c.self.view_is) at (stands k))
