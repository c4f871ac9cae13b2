-- What is promised of every history of a federation of sites that serve.
use Rattle.std.specs.Prelude.{◌≡◌, ℕ, List, ◌∷◌, ◌++◌, Option, Result, IfSome, false}
use Rattle.fed_types.specs.declared.bag_id.BagId.{BagId}
use Rattle.fed_types.specs.Lists.{Has}
use Rattle.fed_types.specs.Sites.{Membership}
use Rattle.fed_types.specs.Slots.{SlotName}
use Rattle.fed_types.specs.Values.{IsMembership}
use Rattle.bag_tree.specs.declared.fault.TreeFault.{TreeFault}
use Rattle.bag_tree.specs.Facts.{TreeFacts}
use Rattle.cell_device.specs.Devices.{Device}
use Rattle.udp_site.specs.Turns as turns
use Rattle.udp_site.specs.Turns.{Serving, turn_of}
use Rattle.udp_site.specs.Served.{Turned, is_the_last}
use Rattle.serving_law.specs.Federations.{Happening, new_federation, after_all}
use Rattle.serving_law.specs.Rules.{MayCome, IsServing, Takes, IsHistory}
use Rattle.serving_law.specs.Reports.{Reports, Registers, SaysKnown, OnRecord, KnownOnRecord}
use Rattle.serving_law.specs.Reports.{IsDeposit}

-- one of these happenings is a deposit of the bag for the slot
pub record WasDeposited {C : Type 0} (federation : ℕ) (history : List (Happening C))
    (slot : SlotName) (bag : BagId) : Type 0 where
  pub before : List (Happening C)
  pub happening : Happening C
  pub later : List (Happening C)
  pub split : history ≡ before ++ happening ∷ later
  pub is : IsDeposit federation (after_all new_federation before) happening slot bag

module _ {C : Type 0} (device : C → Device) (members : Membership) where
  -- This very turn may happen, with these addresses, and with what it is known that folders give,
  -- or, where that isn't known, some folders. It goes on only where its site needs no opening, and
  -- its site represents what it has heard, as `serve` asks of one that begins.
  abbrev pub IsStep : List (Happening C) → (old next : Serving C) → List ℕ
      → Option (List ℕ → Result TreeFacts TreeFault) → Turned → Type 0
  IsStep history old next addresses gives turn =
      (folders : List ℕ → Result TreeFacts TreeFault) × IfSome gives (λ answer. folders ≡ answer)
      × Takes device members (after_all new_federation history) old (record {
        addresses = addresses;
        folders = folders;
        turn = turn;
        next = next;
      })
      × (is_the_last turn ≡ false → next.site.book.needs_opening ≡ false)
      × (turns.IsServing old → turns.IsServing next)

  -- Each turn of which `serve` tells is one that may happen, where what it took may come. So each
  -- whole turn but the last is `Turns`, and the last, of which perhaps only a part was done, is
  -- `Turns` or `Fails`; and after them the site may be called again, which is `Renews`.
  abbrev pub TurnsMayHappen : Type 0
  TurnsMayHappen =
      (history : List (Happening C)) (n : ℕ) (old next : Serving C) (addresses : List ℕ)
      (gives : Option (List ℕ → Result TreeFacts TreeFault)) (turn : Turned)
      → IsMembership members → IsHistory device members history
      → IsServing device members (after_all new_federation history) n old
      → MayCome members (after_all new_federation history).handed turn.took
      → turn_of device addresses gives old turn.took turn.done next
      → IsStep history old next addresses gives turn

  -- agreement: no two reports, of any members at any times, name different bags for one slot
  abbrev pub ReportsAgree : Type 0
  ReportsAgree =
      (history : List (Happening C)) (g h : Happening C) (slot : SlotName) (u v : BagId)
      → IsMembership members → IsHistory device members history → Has g history → Has h history
      → Reports members.federation g slot u → Reports members.federation h slot v
      → u ≡ v

  -- validity: what is reported was deposited for the slot before, at some member
  abbrev pub ReportsWereDeposited : Type 0
  ReportsWereDeposited =
      (before later : List (Happening C)) (h : Happening C) (slot : SlotName) (bag : BagId)
      → IsMembership members → IsHistory device members (before ++ h ∷ later)
      → Reports members.federation h slot bag
      → WasDeposited members.federation before slot bag

  -- what a member says it has registered is on its record from then on, whatever befalls it
  abbrev pub RegisteredStays : Type 0
  RegisteredStays =
      (before later : List (Happening C)) (h : Happening C) (n : ℕ) (slot : SlotName)
      (bag : BagId)
      → IsMembership members → IsHistory device members (before ++ h ∷ later)
      → Registers members.federation h n slot bag
      → OnRecord (after_all new_federation (before ++ h ∷ later)) n slot bag

  -- and so is what a member says is known
  abbrev pub KnownStays : Type 0
  KnownStays =
      (before later : List (Happening C)) (h : Happening C) (n : ℕ) (slot : SlotName)
      (bag : BagId)
      → IsMembership members → IsHistory device members (before ++ h ∷ later)
      → SaysKnown members.federation h n slot bag
      → KnownOnRecord (after_all new_federation (before ++ h ∷ later)) n slot bag
