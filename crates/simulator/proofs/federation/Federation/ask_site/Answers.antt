use Rattle.std.proofs.Common.{◌+◌}
use Rattle.world_law.specs.Networks.{Ask}
use Rattle.world_law.specs.Worlds.{event_at}
use Rattle.simulator.proofs.Named.{to_member, to_nobody}
use Rattle.simulator.proofs.federation.Federation.ask_site.Goals as goal

pub returns-in-Some : goal.returns-in-Some
returns-in-Some c =
    to_member c.ask.result _ _ c.args.number c.args.to
    (λ w n. event_at w c.args.number (c.args.place + 1)
    (Ask (c.args.place + 1) n c.args.slot.now c.args.fate)) _ c.in-Some.ensures c.ask.ensures

pub returns-in-None : goal.returns-in-None
returns-in-None c = to_nobody c.skip.result _ _ _ _ _ c.in-None.ensures c.skip.ensures
