-- What is promised of sites that serve, whatever has happened to them.
use Rattle.std.specs.Prelude.{◌≡◌, ℕ, List, Some}
use Rattle.fed_types.specs.declared.bag_id.BagId.{BagId}
use Rattle.fed_types.specs.Lists.{Has}
use Rattle.fed_types.specs.Quorums.{IsQuorum, quorums_of}
use Rattle.fed_types.specs.Sites.{Membership}
use Rattle.fed_types.specs.Slots.{SlotName}
use Rattle.fed_types.specs.Values.{IsMembership}
use Rattle.cell_device.specs.Devices.{Device}
use Rattle.records.specs.SlotStates.{known_of}
use Rattle.world_law.specs.Laws.{IsChosen}
use Rattle.reach_law.specs.Running.{AreMembers, RoundsAreLeft, CanDecide}
use Rattle.serving_law.specs.Federations.{Federation, Happening, new_federation, after_all}
use Rattle.serving_law.specs.Reports.{Reports, records_of}
use Rattle.serving_law.specs.Rules.{IsHistory}
use Rattle.serving_reach_law.specs.Answering.{AreAnswered, ComesAbout}
use Rattle.serving_reach_law.specs.Reach.{HavePorts, network_of, Agree, IsWithinReach}

-- those that run are members, and a quorum; and each member has an address
pub record AreRunning (members : Membership) (addresses running : List ℕ) : Type 0 where
  pub membership : IsMembership members
  pub have_ports : HavePorts members addresses
  pub are_members : AreMembers (quorums_of members) running
  pub quorum : IsQuorum (quorums_of members) running

module _ {C : Type 0} (device : C → Device) (members : Membership) where
  -- rounds are left to each of those that run, after a history
  abbrev pub HaveRounds : List (Happening C) → (running : List ℕ) → SlotName → Type 0
  HaveRounds history running slot =
      (n : ℕ) → Has n running
      → RoundsAreLeft (network_of (after_all new_federation history)) running slot n

  -- a decision is within reach, where one of those that run knows the slot's bag, or has voted for
  -- one or has a deposit, and has rounds left
  abbrev pub ADecisionIsWithinReach : Type 0
  ADecisionIsWithinReach =
      (addresses running : List ℕ) (history : List (Happening C)) (slot : SlotName)
      → AreRunning members addresses running → IsHistory device members history
      → CanDecide (network_of (after_all new_federation history)) running slot
      → IsWithinReach device members addresses history running slot

  -- so is what a quorum has voted for, whoever has deposited it, and whoever is lost
  abbrev pub WhatIsChosenIsWithinReach : Type 0
  WhatIsChosenIsWithinReach =
      (addresses running : List ℕ) (history : List (Happening C)) (slot : SlotName) (bag : BagId)
      → AreRunning members addresses running → IsHistory device members history
      → IsChosen (quorums_of members) (network_of (after_all new_federation history)) slot bag
      → HaveRounds history running slot
      → IsWithinReach device members addresses history running slot

  -- and what any member ever reported
  abbrev pub WhatIsReportedIsWithinReach : Type 0
  WhatIsReportedIsWithinReach =
      (addresses running : List ℕ) (history : List (Happening C)) (slot : SlotName) (bag : BagId)
      (h : Happening C)
      → AreRunning members addresses running → IsHistory device members history
      → Has h history → Reports members.federation h slot bag
      → HaveRounds history running slot
      → IsWithinReach device members addresses history running slot

  -- Where those that run agree, a bag that was reported is the one that they know.
  abbrev pub TheyAgreeOnWhatWasReported : Type 0
  TheyAgreeOnWhatWasReported =
      (running : List ℕ) (history : List (Happening C)) (slot : SlotName) (bag : BagId)
      (h : Happening C) (f : Federation C) (n : ℕ)
      → Agree members.federation history running slot f
      → Has h history → Reports members.federation h slot bag → Has n running
      → known_of slot (records_of (f.members n)) ≡ Some bag

  -- what is within reach comes about, where calls that may answer are answered
  abbrev pub WhatIsWithinReachComesAbout : Type 0
  WhatIsWithinReachComesAbout =
      (addresses running : List ℕ) (history : List (Happening C)) (slot : SlotName)
      → AreAnswered device members addresses running slot → IsHistory device members history
      → IsWithinReach device members addresses history running slot
      → ComesAbout device members addresses running slot history
