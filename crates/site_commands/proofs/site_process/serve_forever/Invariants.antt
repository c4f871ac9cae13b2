use Rattle.std.specs.Prelude.{◌≡◌, false}
use Rattle.book.specs.Batches.{HoldsFirst}
use Rattle.proposer.specs.VolatileStates.{new_volatile}
use Rattle.site.specs.Batches.{no_cell}
use Rattle.site.specs.Sites.{Represents}
use Rattle.udp_site.specs.Served.{outside}
use Rattle.udp_site.specs.BatchTurns.{begins_with}
use Rattle.udp_site.specs.Turns.{turn_of}
use Rattle.site_commands.proofs.Servings.{SoFar}
use Rattle.site_commands.proofs.site_process.serve_forever.Given as goal

-- so many calls were made, and the folders give what they gave
abbrev pub invariant-calls : goal.invariant-calls
invariant-calls g l = record {
  held : HoldsFirst g.C.Cell.device l.held l.site.book;
  waits : l.site.book.needs_opening ≡ false;
  kept : g.F.Folders.gives l.folders ≡ g.F.Folders.gives l.fn.folders;
  led : Represents l.fn.site new_volatile
      → SoFar g.C.Cell.device
      (turn_of no_cell l.addresses (g.F.Folders.gives l.fn.folders)) 4294967295
      (outside (g.P.Port.traffic l.fn.port) (g.W.Write.contents l.fn.output))
      (outside (g.P.Port.traffic l.port) (g.W.Write.contents l.output))
      (begins_with l.fn.site l.fn.held new_volatile) l.site l.held l.counter;
}
