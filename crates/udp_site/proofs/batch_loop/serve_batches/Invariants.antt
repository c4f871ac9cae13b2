use Rattle.std.proofs.Common.{◌≡◌, ◌≤◌, ◌+◌, false, [], length, option_to_list}
use Rattle.book.specs.Batches.{HoldsFirst}
use Rattle.proposer.specs.VolatileStates.{VolatileState}
use Rattle.site.specs.Batches.{no_cell}
use Rattle.udp_site.specs.BatchTurns.{begins_with}
use Rattle.udp_site.specs.Served.{outside}
use Rattle.udp_site.specs.Turns.{IsServing, begins, turn_of}
use Rattle.udp_site.specs.inner.Batched.{carried_of}
use Rattle.udp_site.specs.inner.HeldPosts.{posts_held}
use Rattle.udp_site.specs.inner.Servers.{Keeps}
use Rattle.udp_site.specs.inner.SlotRecords.{AreSettled}
use Rattle.udp_site.proofs.OneMoreBatch.{SoFar}
use Rattle.udp_site.proofs.batch_loop.serve_batches.Given as goal

-- the batches so far lead here, with so many turns, and each had one at least
abbrev pub invariant-batches : goal.invariant-batches
invariant-batches g l = record {
  keeps : Keeps (λ port. 0) g.F.Folders.gives l.initial.server l.server;
  counted : l.counter ≤ l.done;
  most : l.done + length (option_to_list (carried_of l.carried)) ≤ l.fn.turns;
  idle : l.server.progress.idle ≤ l.done;
  empty : posts_held l.server.port.now ≡ [];
  held : HoldsFirst g.C.Cell.device l.held l.server.site.now.book;
  waits : l.server.site.now.book.needs_opening ≡ false;
  later : g.P.Port.failures l.fn.port ≤ g.P.Port.failures l.port;
  settled : (volatile : VolatileState) → IsServing (begins l.fn.site volatile)
      → AreSettled l.server.site.now.book.records l.server.progress.settled;
  led : (volatile : VolatileState) → IsServing (begins l.fn.site volatile)
      → SoFar g.C.Cell.device (turn_of no_cell l.addresses (g.F.Folders.gives l.fn.folders))
      (outside (g.P.Port.traffic l.fn.port) (g.W.Write.contents l.fn.output))
      (outside (g.P.Port.traffic l.port) (g.W.Write.contents l.output))
      (begins_with l.fn.site l.fn.held volatile) l.server.site.now l.held (carried_of l.carried)
      l.server.progress.idle l.server.progress.tried l.done;
}
