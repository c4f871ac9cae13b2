use Rattle.std.proofs.Common.{refl}
use Rattle.proposer.specs.VolatileStates.{new_volatile}
use Rattle.udp_site.specs.Served.{outside}
use Rattle.site_commands.proofs.Servings.{served_once, failed_once}
use Rattle.site_commands.proofs.site_process.serve_for.Goals as goal

pub returns-in-Ok : goal.returns-in-Ok
returns-in-Ok g c stands =
    served_once g.C.Cell.device c.args.addresses.now (g.F.Folders.gives c.args.folders.now)
    c.args.turns
    (outside (g.P.Port.traffic c.args.port.now) (g.W.Write.contents c.args.output.now))
    (outside (g.P.Port.traffic c.serve_batches.new.port)
    (g.W.Write.contents c.serve_batches.new.output))
    c.args.site.now c.serve_batches.new.site c.args.held.now c.serve_batches.new.held new_volatile
    (λ opened. stands) (c.in-Ok.ensures.served new_volatile (λ opened. stands))

pub returns-in-Err : goal.returns-in-Err
returns-in-Err g c stands =
    failed_once g.C.Cell.device c.args.addresses.now (g.F.Folders.gives c.args.folders.now)
    c.args.turns
    (outside (g.P.Port.traffic c.args.port.now) (g.W.Write.contents c.args.output.now))
    (outside (g.P.Port.traffic c.serve_batches.new.port)
    (g.W.Write.contents c.serve_batches.new.output))
    c.args.site.now c.serve_batches.new.site c.args.held.now c.serve_batches.new.held new_volatile
    (λ opened. stands) c.in-Err.fault
    (c.in-Err.ensures.served new_volatile (λ opened. stands))
    (outside (g.P.Port.traffic c.serve_batches.new.port)
    (g.W.Write.contents c.write_stopped.new.output))
    refl c.write_stopped.result c.write_stopped.ensures
