use Rattle.std.proofs.lemmas.Result.{on_ok_weaker}
use Rattle.world_law.specs.Networks.{Propose, happens}
use Rattle.world_law.specs.Worlds.{quorums, after_event}
use Rattle.simulator.proofs.Sound.{sound_after}
use Rattle.simulator.proofs.federation.Federation.propose.Goals as goal

pub returns : goal.returns
unfolding after_event happens
returns c =
    on_ok_weaker c.call.result (λ called w is. called w is (sound_after (quorums w) w.network
    (Propose _ c.args.slot.now c.args.fate) c.slots_are_well_formed.ensures is.sound))
    c.call.ensures
