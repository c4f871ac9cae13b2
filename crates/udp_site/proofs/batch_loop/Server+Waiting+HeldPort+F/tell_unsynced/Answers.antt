use Rattle.udp_site.proofs.Told.{part_handed, refused_turns}
use Rattle.udp_site.proofs.batch_loop.Server+Waiting+HeldPort+F.tell_unsynced.Goals as goal

pub returns-clause-handed : goal.returns-clause-handed
returns-clause-handed g c =
    part_handed _ _ _ _
    (rw (refused_turns c.args.self.now.site.now c.args.fault c.args.batch.now) at
    c.refuse_deposits.ensures.handed)
