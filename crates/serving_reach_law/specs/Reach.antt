-- What is within reach of the members that run, in turns.
use Rattle.std.specs.Prelude.{◌≡◌, ◌⊎◌, ◌+◌, ◌*◌, ◌-◌, ℕ, zero, suc, List, [], length, Some, IsSome}
use Rattle.std.specs.Prelude.{slice_get}
use Rattle.fed_types.specs.declared.bag_id.BagId.{BagId}
use Rattle.fed_types.specs.Lists.{Has}
use Rattle.fed_types.specs.Sites.{Membership, members_of}
use Rattle.fed_types.specs.Slots.{SlotName}
use Rattle.cell_device.specs.Devices.{Device}
use Rattle.records.specs.SlotStates.{known_of}
use Rattle.world_law.specs.Networks.{Network, SiteState, Up}
use Rattle.world_law.specs.Networks as networks
use Rattle.serving_law.specs.Federations.{Member, Serves, Down, Federation, Happening, after}
use Rattle.serving_law.specs.Federations.{new_federation, after_all}
use Rattle.serving_law.specs.Reports.{Reports, records_of}
use Rattle.serving_law.specs.Rules.{May}
use Rattle.serving_reach_law.specs.Acts.{Act, MayDo, Does}

-- each member has an address
abbrev pub HavePorts : Membership → (addresses : List ℕ) → Type 0
HavePorts members addresses =
    (n : ℕ) → Has n (members_of members) → IsSome (slice_get addresses (n - 1))

-- What the members have on record, and what those that serve have heard, as a network in which
-- nothing was sent: of such a one `reach_law` says who can begin.
abbrev pub site_of : {C : Type 0} → Member C → SiteState
site_of (Serves s) = record { records = s.site.book.records; mode = Up s.volatile }
site_of (Down records) = record { records = records; mode = networks.Down }

abbrev pub network_of : {C : Type 0} → Federation C → Network
network_of f = record { sites = λ n. site_of (f.members n); sent = [] }

-- all that run know one bag of the slot; and if any was reported in the history, by whomever, it is
-- this one
pub record Agree {C : Type 0} (federation : ℕ) (history : List (Happening C))
    (running : List ℕ) (slot : SlotName) (f : Federation C) : Type 0 where
  pub bag : BagId
  pub known : (n : ℕ) → Has n running
      → known_of slot (records_of (f.members n)) ≡ Some bag
  pub reported : (h : Happening C) (v : BagId) → Has h history
      → Reports federation h slot v → v ≡ bag

module _ {C : Type 0} (device : C → Device) (members : Membership) (addresses : List ℕ)
    (history : List (Happening C)) (running : List ℕ) (slot : SlotName) (before : ℕ) where
  -- They agree in at most so many acts: they agree now; or something may be done, and whatever does
  -- it by the rules of turns, they agree in one act less.
  unfoldable pub AgreeIn : (most : ℕ) → Federation C → Type 0
  AgreeIn zero f = Agree members.federation history running slot f
  AgreeIn (suc most) f =
      Agree members.federation history running slot f
      ⊎ ((act : Act) × MayDo members addresses running slot before f act
      × ((h : Happening C) → May device members f h → Does addresses act h
      → AgreeIn most (after f h)))

-- After the history those that run agree in at most ten acts for each of them and two more. Nothing
-- arrives in these that was handed out before.
abbrev pub IsWithinReach :
    {C : Type 0} → (C → Device) → Membership → (addresses : List ℕ) → List (Happening C)
    → (running : List ℕ) → SlotName → Type 0
IsWithinReach device members addresses history running slot =
    AgreeIn device members addresses history running slot
    (length (after_all new_federation history).handed) (10 * length running + 2)
    (after_all new_federation history)
