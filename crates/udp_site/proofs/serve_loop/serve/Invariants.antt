use Rattle.std.specs.Prelude.{◌≤◌}
use Rattle.proposer.specs.VolatileStates.{VolatileState}
use Rattle.udp_site.specs.Turns.{IsServing, begins, turn_of}
use Rattle.udp_site.specs.inner.Servers.{Keeps}
use Rattle.udp_site.specs.inner.SlotRecords.{AreSettled}
use Rattle.udp_site.proofs.OneMoreTurn.{SoFar}
use Rattle.udp_site.proofs.serve_loop.serve.Given as goal

-- the turns so far lead here, and no more of them were idle than there were
abbrev pub invariant-turns : goal.invariant-turns
invariant-turns g l = record {
  keeps : Keeps g.P.Port.failures g.F.Folders.gives l.initial.server l.server;
  idle : l.server.progress.idle ≤ l.counter;
  settled : (volatile : VolatileState) → IsServing (begins l.fn.site volatile)
      → AreSettled l.server.site.now.book.records l.server.progress.settled;
  led : (volatile : VolatileState) → IsServing (begins l.fn.site volatile)
      → SoFar (turn_of g.C.Cell.device l.addresses (g.F.Folders.gives l.fn.folders))
      (record {
        traffic = g.P.Port.traffic l.fn.port;
        written = g.W.Write.contents l.fn.output;
      })
      (record {
        traffic = g.P.Port.traffic l.server.port.now;
        written = g.W.Write.contents l.output;
      })
      (begins l.fn.site volatile) l.server.site.now l.server.progress.idle l.server.progress.tried
      l.counter;
}
