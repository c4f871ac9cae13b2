use Rattle.std.proofs.Common.{take, ◌≤◌, flat_map}
use Rattle.udp_site.specs.Traffic.{Grows, all_handed}
use Rattle.udp_site.specs.inner.Batched.{refused_turn}
use Rattle.udp_site.proofs.batch_loop.Server+Waiting+HeldPort+F.refuse_deposits.Given as goal

-- the clients of the turns so far are told
abbrev pub invariant-loop-turn : goal.invariant-loop-turn
invariant-loop-turn g l = record {
  grows :
      Grows (g.P.Port.traffic l.fn.port) (g.P.Port.traffic l.port)
      (all_handed (flat_map (refused_turn l.self.site.now l.fault) (take l.turn-index l.batch)));
  later : g.P.Port.failures l.fn.port ≤ g.P.Port.failures l.port;
}
