use Rattle.std.proofs.Common.{refl}
use Rattle.fed_types.specs.Quorums.{quorums_of}
use Rattle.world_law.specs.Networks.{new_network}
use Rattle.world_law.specs.Worlds.{new_world}
use Rattle.world_law.proofs.WellFormed.{members_are_sites}
use Rattle.simulator.specs.Sent.{AreSent}
use Rattle.simulator.proofs.Sound.{new_is_sound}
use Rattle.simulator.proofs.federation.Federation.new.Goals as goal

pub returns : goal.returns
unfolding new_world new_network AreSent
returns c = record {
  members = refl;
  stations = c.in_ok-stations.ensures;
  sent = rw (c.new-4.ensures.items, c.new.ensures.sent) tt;
  named = c.new.ensures.named;
  trees = c.new-2.ensures;
  seen = c.new-3.ensures;
  lines = c.new-4.ensures.items;
  sound = new_is_sound (quorums_of c.args.members)
      (members_are_sites c.args.members c.members_are_well_formed.ensures);
}
