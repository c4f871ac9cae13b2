use Rattle.sim_stations.proofs.Rest.{opened}
use Rattle.sim_stations.proofs.opened_site.open.Goals as goal

pub returns-in-Ok : goal.returns-in-Ok
returns-in-Ok c records keeps =
    opened c.args.owner.now c.args.cell c.restart.new.self c.in-Ok.site c.restart.ensures.bytes
    c.restart.ensures.fuse c.in-Ok.ensures.opened c.in-Ok.ensures.stands records keeps
