-- What a federation of the simulator represents.
use Rattle.std.specs.Prelude.{ℕ, ◌+◌, ◌≡◌, false, List, length, Some, slice_get}
use Rattle.fed_types.specs.Lists.{is_in}
use Rattle.fed_types.specs.Quorums.{QuorumSystem}
use Rattle.fed_types.specs.Sites.{Membership, count_of}
use Rattle.sim_stations.specs.declared.station.Station.{Station}
use Rattle.sim_stations.specs.Owners.{owner_of, run_state_of}
use Rattle.sim_stations.specs.Stations as stations
use Rattle.world_law.specs.Networks.{Network, SiteState, new_site}
use Rattle.world_law.specs.WellFormed.{MembersAreSites, IsWellFormed}
use Rattle.world_law.specs.Worlds.{World, quorums}
use Rattle.sim_stations.specs.Firsts as firsts
use Rattle.sim_stations.specs.DatagramNumbers as numbers
use Rattle.simulator.specs.declared.federation.Federation.{Federation}
use Rattle.simulator.specs.Sent.{AreSent}

-- ---- the sites

-- the station is a member's of this number, and represents its state
pub record IsStation (members : Membership) (site : ℕ) (station : Station) (s : SiteState) : Type 0
  where
    pub owner : owner_of station ≡ record { members = members; site = site }
    pub stands : stations.Represents (owner_of station) (run_state_of station) s

-- the stations of all members, that of site 1 first
pub record AreStations (members : Membership) (all : List Station) (sites : ℕ → SiteState) : Type 0
  where
    pub count : length all ≡ count_of members
    pub each : (place : ℕ) (station : Station) → slice_get all place ≡ Some station
        → IsStation members (place + 1) station (sites (place + 1))

-- all of them are new
abbrev pub AreNew : Membership → List Station → Type 0
AreNew members all = AreStations members all (λ site. new_site)

-- ---- the network

-- the members are numbers of sites; messages are well-formed; and numbers that are no member's stay
-- new
pub record IsSound (q : QuorumSystem) (network : Network) : Type 0 where
  pub sites : MembersAreSites q
  pub well_formed : IsWellFormed network
  pub others : (site : ℕ) → is_in q.members site ≡ false → network.sites site ≡ new_site

-- ---- the federation

-- its sites represent those of the world, and each datagram that was sent has its line in its
-- place; trees, seen bags, named numbers and lines are the world's
pub record Represents (f : Federation) (w : World) : Type 0 where
  pub members : f.members ≡ w.members
  pub stations : AreStations w.members f.stations.items w.network.sites
  pub sent : AreSent w.members.federation 1 f.lines.items f.sent.sent w.network.sent
  pub named : numbers.Represents f.sent w.named
  pub trees : f.trees ≡ w.trees
  pub seen : firsts.Represents f.seen w.seen
  pub lines : f.lines.items ≡ w.lines
  pub sound : IsSound (quorums w) w.network
