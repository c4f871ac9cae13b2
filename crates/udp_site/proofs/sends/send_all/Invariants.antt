use Rattle.std.proofs.Common.{take, ◌≤◌, flat_map}
use Rattle.udp_site.specs.Traffic.{Grows, all_handed}
use Rattle.udp_site.specs.Turns.{outgoing_posts}
use Rattle.udp_site.proofs.sends.send_all.Given as goal

-- the datagrams so far were handed out
abbrev pub invariant-loop-sealed : goal.invariant-loop-sealed
invariant-loop-sealed g l = record {
  grows :
      Grows (g.P.Port.traffic l.fn.port) (g.P.Port.traffic l.port)
      (all_handed (flat_map (outgoing_posts l.addresses) (take l.sealed-index l.sends)));
  later : g.P.Port.failures l.fn.port ≤ g.P.Port.failures l.port;
}
