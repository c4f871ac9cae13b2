-- Every history keeps a register for each slot, and what is reported is what it is decided for.
use Rattle.std.specs.Prelude.{◌≡◌, List, [], ◌∷◌, ◌++◌, Some}
use Rattle.fed_types.specs.declared.bag_id.BagId.{BagId}
use Rattle.fed_types.specs.Lists.{Has}
use Rattle.fed_types.specs.Quorums.{quorums_of}
use Rattle.fed_types.specs.Sites.{Membership}
use Rattle.fed_types.specs.Slots.{SlotName}
use Rattle.fed_types.specs.Values.{IsMembership}
use Rattle.cell_device.specs.Devices.{Device}
use Rattle.lines.specs.declared.notice.Notice.{Notice}
use Rattle.world_law.specs.Laws.{notice_report}
use Rattle.world_law.specs.Networks.{Event}
use Rattle.serving_law.specs.Federations.{Federation, Happening}
use Rattle.serving_law.specs.Reports.{Reports}
use Rattle.register_law.specs.Registers.{Register, Open, Decided, Becomes, Keeps}
use Rattle.register_law.specs.Carried.{IsHistoryAfter, left_by, said_in, now, WasDepositedIn}
use Rattle.register_law.specs.Carried.{WasDeposited}

-- it keeps one register for the slot, and no other
abbrev pub KeepsOne : {C : Type 0} → Membership → Federation C → SlotName → Type 0
KeepsOne members f slot =
    (one : Register) × Keeps members f slot one
    × ((other : Register) → Keeps members f slot other → other ≡ one)

module _ {C : Type 0} (members : Membership) (events : List Event) where
  -- The run of these events: each slot was open at first, and has come to the register with which
  -- the history begins; and what was reported in the run is what that is decided for.
  pub record Begins (start : Federation C) : Type 0 where
    pub from_open : (slot : SlotName) (r : Register) → Keeps members start slot r
        → Becomes (WasDepositedIn (quorums_of members) events slot) Open r
    pub reports : (notice : Notice) (slot : SlotName) (bag : BagId)
        → Has notice (said_in members events)
        → notice_report notice ≡ Some (record { slot = slot; bag = bag })
        → Keeps members start slot (Decided bag)

  -- After these happenings one more happens: each slot's register takes a step, and what is
  -- reported is what it was decided for before.
  pub record Steps (before : List (Happening C)) (h : Happening C) : Type 0 where
    pub step : (slot : SlotName) (old new : Register)
        → Keeps members (now members events before) slot old
        → Keeps members (now members events (before ++ h ∷ [])) slot new
        → Becomes (WasDeposited members events (before ++ h ∷ []) slot) old new
    pub reports : (slot : SlotName) (bag : BagId) → Reports members.federation h slot bag
        → Keeps members (now members events before) slot (Decided bag)

module _ {C : Type 0} (device : C → Device) (members : Membership) where
  -- So it is of every history: at the beginning, at each of its happenings, and after any of them.
  pub record Refines (events : List Event) (history : List (Happening C)) : Type 0 where
    pub begins : Begins {C = C} members events (left_by members events)
    pub steps : (before : List (Happening C)) (h : Happening C) (later : List (Happening C))
        → history ≡ before ++ h ∷ later → Steps members events before h
    pub always : (before later : List (Happening C)) → history ≡ before ++ later
        → (slot : SlotName) → KeepsOne members (now members events before) slot

  abbrev pub HistoriesRefine : Type 0
  HistoriesRefine =
      (events : List Event) (history : List (Happening C)) → IsMembership members
      → IsHistoryAfter device members events history → Refines events history

  -- Where a happening is such a step, what it reports is what was decided before it.
  abbrev pub StepsReportWhatWasDecided : Type 0
  StepsReportWhatWasDecided =
      (events : List Event) (before : List (Happening C)) (h : Happening C) (slot : SlotName)
      (bag : BagId)
      → Steps members events before h → Reports members.federation h slot bag
      → Keeps members (now members events before) slot (Decided bag)
