use Rattle.simulator.proofs.Places.{NewSoFar}
use Rattle.simulator.proofs.federation.new_stations.Given as goal

-- the new sites so far, and those that are left
abbrev pub invariant-loop-site : goal.invariant-loop-site
invariant-loop-site l =
    (goal.iterator-loop-site).can_next l.site-iterator
    × (goal.iterator-loop-site).is_finite l.site-iterator
    × NewSoFar l.members l.stations.items l.site-iterator
