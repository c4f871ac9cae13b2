use Rattle.std.proofs.Common.{take, ◌≤◌, ◌∷◌, [], flat_map}
use Rattle.udp_site.specs.Traffic.{Grows, all_handed}
use Rattle.udp_site.specs.inner.HeldPosts.{post_of}
use Rattle.udp_site.proofs.held_port.send_held.Given as goal

-- the datagrams so far were handed out
abbrev pub invariant-loop-post : goal.invariant-loop-post
invariant-loop-post g l = record {
  grows :
      Grows (g.P.Port.traffic l.fn.port) (g.P.Port.traffic l.port)
      (all_handed (flat_map (λ post. post_of post ∷ []) (take l.post-index l.posts)));
  later : g.P.Port.failures l.fn.port ≤ g.P.Port.failures l.port;
}
