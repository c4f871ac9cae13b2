-- Histories that go on from the cells of an earlier run, of any program that kept these rules: a
-- run of a network, since cells say nothing of the program. Where it has no events they begin with
-- new cells.
use Rattle.std.specs.Prelude.{◌≡◌, ◌⊎◌, ℕ, List, [], ◌∷◌, ◌++◌, map, Ok}
use Rattle.fed_types.specs.declared.bag_id.BagId.{BagId}
use Rattle.fed_types.specs.Quorums.{QuorumSystem, quorums_of}
use Rattle.fed_types.specs.Sites.{Membership}
use Rattle.fed_types.specs.Slots.{SlotName}
use Rattle.cell_device.specs.Devices.{Device}
use Rattle.records.specs.declared.entry.Entry.TheVariants as entry
use Rattle.dgram.specs.Encoding.{datagram_of}
use Rattle.site.specs.Effects.{Send}
use Rattle.schedule.specs.declared.fate.Fate.{Fate}
use Rattle.lines.specs.declared.notice.Notice.{Notice}
use Rattle.world_law.specs.Laws.{OnRecord, notices_of}
use Rattle.world_law.specs.Networks.{Network, Event, Deposit, new_network, happens, run}
use Rattle.world_law.specs.WellFormed.{AreWellFormedEvents}
use Rattle.udp_site.specs.Traffic.{Post}
use Rattle.serving_law.specs.Federations.{Federation, Down, Happening, after_all}
use Rattle.serving_law.specs.Reports.{IsDeposit}
use Rattle.serving_law.specs.Rules.{MayAll, IsHistory}

-- ---- how they begin

-- a datagram that was sent, for the address of its site, whichever that is
abbrev pub datagram_for : (federation : ℕ) → Send → Post
datagram_for federation d = (d.to, datagram_of federation d.message)

-- Each member is down, and its cell says the records that it has in this network, in whatever
-- layout. Each datagram that was sent may still come.
abbrev pub carried : {C : Type 0} → (federation : ℕ) → Network → Federation C
carried federation w = record {
  members = λ n. Down (w.sites n).records;
  handed = map (datagram_for federation) w.sent;
}

-- the federation that a run of these events left
abbrev pub left_by : {C : Type 0} → Membership → List Event → Federation C
left_by members events =
    carried members.federation (run (quorums_of members) new_network events)

-- what was said in that run
abbrev pub said_in : Membership → List Event → List Notice
said_in members events = notices_of (quorums_of members) new_network events

-- The history goes on from there. The events brought in nothing but slots, sites and bags.
pub record IsHistoryAfter {C : Type 0} (device : C → Device) (members : Membership)
    (events : List Event) (history : List (Happening C)) : Type 0 where
  pub formed : AreWellFormedEvents events
  pub happens : MayAll device members (left_by members events) history

-- where the run has no events, these are the histories of new cells
abbrev pub NewCellsAreLeftByNone : {C : Type 0} → (C → Device) → Membership → Type 0
NewCellsAreLeftByNone {C} device members =
    (history : List (Happening C)) → IsHistory device members history
    → IsHistoryAfter device members [] history

-- the federation after it
abbrev pub now : {C : Type 0} → Membership → List Event → List (Happening C) → Federation C
now members events history = after_all (left_by members events) history

-- ---- what was deposited

-- One of these events is a deposit whose check answered this bag, and after it its site has the bag
-- on record as its deposit.
pub record WasDepositedIn (q : QuorumSystem) (events : List Event) (slot : SlotName) (bag : BagId)
    : Type 0 where
  pub before : List Event
  pub site : ℕ
  pub fate : Fate
  pub later : List Event
  pub split : events ≡ before ++ Deposit site slot (Ok bag) fate ∷ later
  pub on_record :
      OnRecord (happens q (run q new_network before) (Deposit site slot (Ok bag) fate)).network
      site slot (entry.Deposit bag)

-- one of these happenings, from this federation on, is a deposit of the bag for the slot
pub record WasDepositedSince {C : Type 0} (federation : ℕ) (start : Federation C)
    (history : List (Happening C)) (slot : SlotName) (bag : BagId) : Type 0 where
  pub before : List (Happening C)
  pub happening : Happening C
  pub later : List (Happening C)
  pub split : history ≡ before ++ happening ∷ later
  pub is : IsDeposit federation (after_all start before) happening slot bag

-- in the run, or since
abbrev pub WasDeposited : {C : Type 0} → Membership → List Event → List (Happening C) → SlotName
    → BagId → Type 0
WasDeposited members events history slot bag =
    WasDepositedIn (quorums_of members) events slot bag
    ⊎ WasDepositedSince members.federation (left_by members events) history slot bag
