-- What else is promised of every history that goes on from the cells of a run: agreement and
-- validity, what its cells show, counted as an auditor counts, and what stays.
use Rattle.std.specs.Prelude.{◌≡◌, ℕ, List, ◌∷◌, ◌++◌, Some}
use Rattle.fed_types.specs.declared.bag_id.BagId.{BagId}
use Rattle.fed_types.specs.Lists.{Has}
use Rattle.fed_types.specs.Quorums.{QuorumSystem, AreQuorums, quorums_of}
use Rattle.fed_types.specs.Sites.{Membership}
use Rattle.fed_types.specs.Slots.{SlotName}
use Rattle.fed_types.specs.Values.{IsMembership}
use Rattle.cell_device.specs.Devices.{Device}
use Rattle.records.specs.declared.record.Record.{Record}
use Rattle.lines.specs.declared.notice.Notice.{Notice}
use Rattle.world_law.specs.Laws.{IsChosen, notice_report}
use Rattle.world_law.specs.Networks.{Event, new_network, run}
use Rattle.audit.specs.Evidence.{SiteRecord}
use Rattle.audit.specs.Laws.{ShowChosen, HaveNoConflict, ReportNoOther}
use Rattle.serving_law.specs.Federations.{Happening}
use Rattle.serving_law.specs.Reports.{Reports, Registers, SaysKnown, OnRecord, KnownOnRecord}
use Rattle.serving_law.specs.Reports.{records_of}
use Rattle.register_law.specs.Carried.{IsHistoryAfter, said_in, now, WasDeposited}

-- ---- cells

-- After some first part of the history the site of this record had it: its process had, or its cell
-- recovers to it. Where that part has no happenings, the run has left it.
pub record WasKept {C : Type 0} (members : Membership) (events : List Event)
    (history : List (Happening C)) (s : SiteRecord) : Type 0 where
  pub before : List (Happening C)
  pub later : List (Happening C)
  pub split : history ≡ before ++ later
  pub kept : Has s.kept (records_of ((now members events before).members s.site))

-- so it is of each of these records: they are of the sites' cells, as they are or once were
abbrev pub AreOfCells : {C : Type 0} → Membership → List Event → List (Happening C)
    → List SiteRecord → Type 0
AreOfCells members events history given =
    (s : SiteRecord) → Has s given → WasKept members events history s

-- ---- of a network

-- what is chosen stays chosen, whatever happens later
abbrev pub ChosenRemains : Type 0
ChosenRemains =
    (q : QuorumSystem) (events later : List Event) (slot : SlotName) (bag : BagId)
    → AreQuorums q → IsChosen q (run q new_network events) slot bag
    → IsChosen q (run q new_network (events ++ later)) slot bag

module _ {C : Type 0} (device : C → Device) (members : Membership) where
  -- ---- reports

  -- agreement: no two reports name different bags for one slot
  abbrev pub CarriedReportsAgree : Type 0
  CarriedReportsAgree =
      (events : List Event) (history : List (Happening C)) (g h : Happening C) (slot : SlotName)
      (u v : BagId)
      → IsMembership members → IsHistoryAfter device members events history
      → Has g history → Has h history
      → Reports members.federation g slot u → Reports members.federation h slot v
      → u ≡ v

  -- and none names another than the run has reported
  abbrev pub CarriedAgreeWithTheRun : Type 0
  CarriedAgreeWithTheRun =
      (events : List Event) (history : List (Happening C)) (notice : Notice) (h : Happening C)
      (slot : SlotName) (u v : BagId)
      → IsMembership members → IsHistoryAfter device members events history
      → Has notice (said_in members events) → Has h history
      → notice_report notice ≡ Some (record { slot = slot; bag = u })
      → Reports members.federation h slot v
      → u ≡ v

  -- validity: what is reported was deposited for the slot before, in the run or since
  abbrev pub CarriedReportsWereDeposited : Type 0
  CarriedReportsWereDeposited =
      (events : List Event) (before later : List (Happening C)) (h : Happening C)
      (slot : SlotName) (bag : BagId)
      → IsMembership members → IsHistoryAfter device members events (before ++ h ∷ later)
      → Reports members.federation h slot bag
      → WasDeposited members events before slot bag

  -- what a member has on record stays there, whatever befalls it
  abbrev pub RecordsStay : Type 0
  RecordsStay =
      (events : List Event) (before later : List (Happening C)) (n : ℕ) (r : Record)
      → IsMembership members → IsHistoryAfter device members events (before ++ later)
      → Has r (records_of ((now members events before).members n))
      → Has r (records_of ((now members events (before ++ later)).members n))

  -- so does what it says it has registered, from then on
  abbrev pub CarriedRegisteredStays : Type 0
  CarriedRegisteredStays =
      (events : List Event) (before later : List (Happening C)) (h : Happening C) (n : ℕ)
      (slot : SlotName) (bag : BagId)
      → IsMembership members → IsHistoryAfter device members events (before ++ h ∷ later)
      → Registers members.federation h n slot bag
      → OnRecord (now members events (before ++ h ∷ later)) n slot bag

  -- and what it says is known
  abbrev pub CarriedKnownStays : Type 0
  CarriedKnownStays =
      (events : List Event) (before later : List (Happening C)) (h : Happening C) (n : ℕ)
      (slot : SlotName) (bag : BagId)
      → IsMembership members → IsHistoryAfter device members events (before ++ h ∷ later)
      → SaysKnown members.federation h n slot bag
      → KnownOnRecord (now members events (before ++ h ∷ later)) n slot bag

  -- ---- what cells show

  -- they name at most one bag for a slot: as chosen, or as known
  abbrev pub CellsHaveNoConflict : Type 0
  CellsHaveNoConflict =
      (events : List Event) (history : List (Happening C)) (given : List SiteRecord)
      → IsMembership members → IsHistoryAfter device members events history
      → AreOfCells members events history given
      → HaveNoConflict (quorums_of members) given

  -- a bag that they show as chosen is the only one that is reported, by the history or by the run
  abbrev pub ChosenIsAllThatIsReported : Type 0
  ChosenIsAllThatIsReported =
      (events : List Event) (history : List (Happening C)) (given : List SiteRecord)
      (slot : SlotName) (bag : BagId)
      → IsMembership members → IsHistoryAfter device members events history
      → AreOfCells members events history given
      → ShowChosen (quorums_of members) given slot bag
      → ((h : Happening C) (other : BagId) → Has h history
      → Reports members.federation h slot other → other ≡ bag)
      × ReportNoOther (said_in members events) slot bag
