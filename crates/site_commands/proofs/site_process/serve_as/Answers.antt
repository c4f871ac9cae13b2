use Rattle.std.proofs.Common.{sym, subst}
use Rattle.proposer.specs.VolatileStates.{new_volatile}
use Rattle.site.specs.Batches.{no_cell}
use Rattle.udp_site.specs.BatchTurns.{begins_with}
use Rattle.udp_site.specs.Served.{outside}
use Rattle.udp_site.specs.Turns.{turn_of}
use Rattle.site_commands.specs.declared.site_arguments.Turns.{Turns}
use Rattle.site_commands.specs.Services.{ServedBy}
use Rattle.site_commands.proofs.site_process.serve_as.Goals as goal

pub returns-in-Count : goal.returns-in-Count
returns-in-Count g c represents =
    let part = c.part-site in
    let waits = part.ensures.represents new_volatile represents in (
      part.result.0,
      part.result.1,
      record {
        records = part.ensures.records;
        owner = part.ensures.owner;
        waits = part.ensures.waits;
        represents = waits;
        cell = part.ensures.cell;
        synced = part.ensures.synced;
        needs_opening = part.ensures.needs_opening;
      },
      subst (λ (how : Turns). ServedBy g.C.Cell.device
          (turn_of no_cell c.args.service.addresses.now (g.F.Folders.gives c.args.folders.now)) how
          (outside (g.P.Port.traffic c.args.port.now) (g.W.Write.contents c.args.output.now))
          (outside (g.P.Port.traffic c.serve_for.new.port)
          (g.W.Write.contents c.serve_for.new.output))
          (begins_with part.result.0 part.result.1 new_volatile) c.serve_for.result)
          (sym c.in-Count.is) (c.serve_for.ensures waits),
    )

pub returns : goal.returns
returns g c represents =
    let part = c.part-site in
    let waits = part.ensures.represents new_volatile represents in (
      part.result.0,
      part.result.1,
      record {
        records = part.ensures.records;
        owner = part.ensures.owner;
        waits = part.ensures.waits;
        represents = waits;
        cell = part.ensures.cell;
        synced = part.ensures.synced;
        needs_opening = part.ensures.needs_opening;
      },
      subst (λ (how : Turns). ServedBy g.C.Cell.device
          (turn_of no_cell c.args.service.addresses.now (g.F.Folders.gives c.args.folders.now)) how
          (outside (g.P.Port.traffic c.args.port.now) (g.W.Write.contents c.args.output.now))
          (outside (g.P.Port.traffic c.serve_forever.new.port)
          (g.W.Write.contents c.serve_forever.new.output))
          (begins_with part.result.0 part.result.1 new_volatile) c.serve_forever.result)
          (sym c.in-Forever.is) (c.serve_forever.ensures waits),
    )
