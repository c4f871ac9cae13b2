use Rattle.std.specs.Prelude.{◌≡◌, ◌≤◌, length, None, vec_capacity}
use Rattle.udp_site.specs.inner.Batched.{JoinsMore}
use Rattle.udp_site.proofs.batch_intake.take_more.Given as goal

-- these came after the first so far, and none is carried
abbrev pub invariant-datagrams : goal.invariant-datagrams
invariant-datagrams g l = record {
  joined :
      JoinsMore (g.P.Port.traffic l.fn.port) (g.P.Port.traffic l.port) l.fn.batch.items
      l.batch.items None;
  count : length l.batch.items ≡ l.counter;
  room : l.most ≤ vec_capacity l.batch;
  later : g.P.Port.failures l.fn.port ≤ g.P.Port.failures l.port;
}
