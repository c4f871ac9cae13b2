-- What happens in a sound network leaves it sound.
use Rattle.std.proofs.Common.{refl, ◌∙◌}
use Rattle.fed_types.specs.Quorums.{QuorumSystem}
use Rattle.world_law.specs.Networks.{Network, Event, new_network, happens}
use Rattle.world_law.specs.WellFormed.{MembersAreSites, IsWellFormedEvent}
use Rattle.world_law.proofs.WellFormed.{happens_well_formed, new_is_well_formed}
use Rattle.world_law.proofs.NonMembers.{non_members_stay_new}
use Rattle.simulator.specs.Federations.{IsSound}

pub sound_after : (q : QuorumSystem) (w : Network) (e : Event) → IsWellFormedEvent e → IsSound q w
    → IsSound q (happens q w e).network
sound_after q w e well is = record {
  sites = is.sites;
  well_formed = happens_well_formed q w e is.sites well is.well_formed;
  others = λ n none. non_members_stay_new q w e n none ∙ is.others n none;
}

pub new_is_sound : (q : QuorumSystem) → MembersAreSites q → IsSound q new_network
unfolding new_network
new_is_sound q sites =
    record { sites = sites; well_formed = new_is_well_formed; others = λ n none. refl }
