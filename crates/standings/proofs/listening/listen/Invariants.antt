use Rattle.standings.specs.inner.{HaveListened}
use Rattle.standings.proofs.listening.listen.Given as goal

-- what came so far is heard
abbrev pub invariant-loop : goal.invariant-loop
invariant-loop g l =
    HaveListened l.federation (g.P.Port.traffic l.fn.port) (g.P.Port.traffic l.port) l.fn.sites
    l.sites
