use Rattle.sim_stations.specs.DatagramNumbers.{AreNamed}
use Rattle.sim_stations.proofs.datagrams.last_named.Given as goal

-- each number so far was named
abbrev pub invariant-look : goal.invariant-look
invariant-look l = AreNamed l.marks l.others.keys l.before
