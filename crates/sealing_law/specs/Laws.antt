-- What is promised of sites that serve with keys.
use Rattle.std.specs.Prelude.{◌≡◌, ℕ, List, Option, Result}
use Rattle.fed_types.specs.declared.bag_id.BagId.{BagId}
use Rattle.fed_types.specs.Lists.{Has}
use Rattle.fed_types.specs.Sites.{Membership}
use Rattle.fed_types.specs.Slots.{SlotName}
use Rattle.fed_types.specs.Values.{IsMembership}
use Rattle.bag_tree.specs.declared.fault.TreeFault.{TreeFault}
use Rattle.bag_tree.specs.Facts.{TreeFacts}
use Rattle.cell_device.specs.Devices.{Device}
use Rattle.tags.specs.Rings.{Ring}
use Rattle.udp_site.specs.Served.{Turned}
use Rattle.udp_site.specs.Traffic.{Post, Taken}
use Rattle.udp_site.specs.Turns.{Serving, turn_of}
use Rattle.serving_law.specs.Federations.{Federation, Happening, new_federation, after_all}
use Rattle.serving_law.specs.Laws.{IsStep}
use Rattle.serving_law.specs.Reports.{Reports}
use Rattle.serving_law.specs.Rules.{MayCome, MayAll, IsServing}
use Rattle.sealing_law.specs.Histories.{MayAllWithKeys, IsHistoryWithKeys}
use Rattle.sealing_law.specs.Sealing.{IsHandedOn}

-- what a port with keys hands on is something that may come: no message between sites is forged
abbrev pub HandedOnMayCome : Type 0
HandedOnMayCome =
    (members : Membership) (rings : List Ring) (handed : List Post) (taken : Taken)
    → IsHandedOn members rings handed taken → MayCome members handed taken

module _ {C : Type 0} (device : C → Device) where
  -- What happens to sites with keys, from wherever they go on, may happen by all rules. So it is a
  -- history, and all that is promised of histories holds.
  abbrev pub WithKeysAreHistories : Type 0
  WithKeysAreHistories =
      (members : Membership) (rings : List Ring) (f : Federation C) (history : List (Happening C))
      → MayAllWithKeys device members rings f history → MayAll device members f history

  -- and each history may happen to sites with keys, if a ring has a key of sites and one of clients
  abbrev pub HistoriesMayHaveKeys : Type 0
  HistoriesMayHaveKeys =
      (members : Membership) (rings : List Ring) (ring : Ring) (site client : List ℕ)
      (f : Federation C) (history : List (Happening C))
      → Has ring rings → Has site ring.sites → Has client ring.clients
      → MayAll device members f history → MayAllWithKeys device members rings f history

  -- agreement: no two reports, of any members at any times, name different bags for one slot
  abbrev pub ReportsAgreeWithKeys : Type 0
  ReportsAgreeWithKeys =
      (members : Membership) (rings : List Ring) (history : List (Happening C))
      (g h : Happening C) (slot : SlotName) (u v : BagId)
      → IsMembership members → IsHistoryWithKeys device members rings history
      → Has g history → Has h history
      → Reports members.federation g slot u → Reports members.federation h slot v
      → u ≡ v

  -- each turn of which `serve` tells is one that may happen to sites with keys, where a port handed
  -- on what it took
  abbrev pub TurnsWithKeysMayHappen : Type 0
  TurnsWithKeysMayHappen =
      (members : Membership) (rings : List Ring) (history : List (Happening C)) (n : ℕ)
      (old next : Serving C) (addresses : List ℕ)
      (gives : Option (List ℕ → Result TreeFacts TreeFault)) (turn : Turned)
      → IsMembership members → IsHistoryWithKeys device members rings history
      → IsServing device members (after_all new_federation history) n old
      → IsHandedOn members rings (after_all new_federation history).handed turn.took
      → turn_of device addresses gives old turn.took turn.done next
      → IsStep device members history old next addresses gives turn
