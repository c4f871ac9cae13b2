-- Agreement and validity of histories that go on from the cells of a run, what their cells show,
-- and what stays there.
use Rattle.std.proofs.Common.{◌≡◌, inl, inr, refl, List, Some}
use Rattle.fed_types.specs.declared.bag_id.BagId.{BagId}
use Rattle.fed_types.specs.Lists.{Has}
use Rattle.fed_types.specs.Quorums.{QuorumSystem, quorums_of}
use Rattle.fed_types.specs.Sites.{Membership}
use Rattle.fed_types.specs.Slots.{SlotName}
use Rattle.fed_types.specs.Values.{IsMembership}
use Rattle.fed_types.specs.Laws.Quorums.{are_quorums}
use Rattle.cell_device.specs.Devices.{Device}
use Rattle.records.specs.declared.entry.Entry.TheVariants as entry
use Rattle.lines.specs.declared.notice.Notice.{Notice}
use Rattle.audit.specs.Evidence.{SiteRecord, AreOf}
use Rattle.audit.specs.Laws.{ShowChosen, IsNamed}
use Rattle.audit.proofs.Shown.{given_on_record, shown_is_chosen}
use Rattle.world_law.specs.Laws.{IsChosen, notice_report}
use Rattle.world_law.specs.Networks.{Event, new_network, run}
use Rattle.world_law.proofs.Grows.{chosen_grows}
use Rattle.world_law.proofs.Induction.{chosen_once}
use Rattle.world_law.proofs.Reports.{reported_from}
use Rattle.world_law.proofs.Runs.{new_kept}
use Rattle.serving_law.specs.Federations.{Happening}
use Rattle.serving_law.proofs.Scene.{OnlyNow}
use Rattle.register_law.specs.Carried.{IsHistoryAfter, left_by, said_in}
use Rattle.register_law.specs.Laws.{AreOfCells, CarriedReportsAgree, CarriedAgreeWithTheRun}
use Rattle.register_law.specs.Laws.{CarriedReportsWereDeposited, CellsHaveNoConflict}
use Rattle.register_law.specs.Laws.{ChosenIsAllThatIsReported, RecordsStay, CarriedRegisteredStays}
use Rattle.register_law.specs.Laws.{CarriedKnownStays}
use Rattle.register_law.proofs.Led.{Setting, Led, led, in_federation}
use Rattle.register_law.proofs.Refined.{next, reported_came, stays}
use Rattle.register_law.proofs.Runs.{left_stands}

module _ {C : Type 0} {device : C → Device} {members : Membership}
    (setting : Setting device members) {events : List Event} {history : List (Happening C)}
    (after_run : IsHistoryAfter device members events history) where
  abbrev q : QuorumSystem
  q = quorums_of members

  l : Led device members (left_by members events) history (run q new_network events)
  l =
      led setting history (left_stands device members setting.membership events after_run.formed)
      after_run.happens

  -- at most one bag is chosen in the network that it leads to
  once : (slot : SlotName) (u v : BagId) → IsChosen q l.x slot u → IsChosen q l.x slot v → u ≡ v
  once = chosen_once q l.x (are_quorums members) l.stands.kept

  run_chosen : (notice : Notice) (slot : SlotName) (bag : BagId)
      → Has notice (said_in members events)
      → notice_report notice ≡ Some (record { slot = slot; bag = bag })
      → IsChosen q l.x slot bag
  run_chosen notice slot bag said is =
      chosen_grows l.grows
      (reported_from q (are_quorums members) events new_network (new_kept q) notice _ said is)

  module _ {given : List SiteRecord} (are : AreOfCells members events history given) where
    are_of : AreOf l.x given
    are_of s among =
        let k = are s among in l.cells k.before k.later k.split s.site s.kept k.kept

    shown_chosen : {slot : SlotName} {bag : BagId} → ShowChosen q given slot bag
        → IsChosen q l.x slot bag
    shown_chosen {slot} {bag} shown = shown_is_chosen q l.x given slot bag are_of shown

    named : (slot : SlotName) (bag : BagId) → IsNamed q given slot bag → IsChosen q l.x slot bag
    named slot bag (inl shown) = shown_chosen shown
    named slot bag (inr known) =
        l.stands.kept.records known.0 slot _
        (given_on_record l.x given are_of known.0 slot _ known.1)

module _ {C : Type 0} (device : C → Device) (members : Membership) (only_now : OnlyNow device) where
  abbrev of : IsMembership members → Setting device members
  of is = record { membership = is; only_now = only_now }

  pub carried_reports_agree : CarriedReportsAgree device members
  carried_reports_agree events history g h slot u v is after_run i j r s =
      let reports = (l (of is) after_run).reports in
      once (of is) after_run slot u v (reports g i slot u r) (reports h j slot v s)

  pub carried_agree_with_the_run : CarriedAgreeWithTheRun device members
  carried_agree_with_the_run events history notice h slot u v is after_run said j e s =
      once (of is) after_run slot u v (run_chosen (of is) after_run notice slot u said e)
      ((l (of is) after_run).reports h j slot v s)

  pub carried_reports_were_deposited : CarriedReportsWereDeposited device members
  carried_reports_were_deposited events before later h slot bag is after_run r =
      reported_came (of is) after_run before h later refl slot bag r

  pub records_stay : RecordsStay device members
  records_stay events before later n r is after_run has =
      let led_to = l (of is) after_run in
      in_federation (of is) led_to.stands n (led_to.cells before later refl n r has)

  pub carried_registered_stays : CarriedRegisteredStays device members
  carried_registered_stays events before later h n slot bag is after_run r =
      let went = next (of is) after_run before h later refl in
      stays (of is) after_run before h later refl n slot (entry.Deposit bag)
      (went.registers n slot bag r)

  pub carried_known_stays : CarriedKnownStays device members
  carried_known_stays events before later h n slot bag is after_run r =
      let went = next (of is) after_run before h later refl in
      stays (of is) after_run before h later refl n slot (entry.Known bag)
      (went.knows n slot bag r)

  pub cells_have_no_conflict : CellsHaveNoConflict device members
  cells_have_no_conflict events history given is after_run are slot u v a b =
      once (of is) after_run slot u v (named (of is) after_run are slot u a)
      (named (of is) after_run are slot v b)

  pub chosen_is_all_that_is_reported : ChosenIsAllThatIsReported device members
  chosen_is_all_that_is_reported events history given slot bag is after_run are shown = (
    λ h other has r. only other ((l (of is) after_run).reports h has slot other r),
    λ notice other said report. only other
        (run_chosen (of is) after_run notice slot other said report),
  )
    where
      only : (other : BagId) → IsChosen (quorums_of members) (l (of is) after_run).x slot other
          → other ≡ bag
      only other chosen =
          once (of is) after_run slot other bag chosen (shown_chosen (of is) after_run are shown)
