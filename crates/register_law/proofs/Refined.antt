-- Every history keeps a register for each slot.
use Rattle.std.proofs.Common.{ℕ, ◌≡◌, inl, inr, refl, ap, List, [], ◌∷◌, ◌++◌, append_assoc}
use Rattle.fed_types.specs.declared.bag_id.BagId.{BagId}
use Rattle.fed_types.specs.Quorums.{QuorumSystem, quorums_of}
use Rattle.fed_types.specs.Sites.{Membership}
use Rattle.fed_types.specs.Slots.{SlotName}
use Rattle.fed_types.specs.Laws.Quorums.{are_quorums}
use Rattle.cell_device.specs.Devices.{Device}
use Rattle.records.specs.declared.entry.Entry.{Entry}
use Rattle.records.specs.Bounds.{HasEntry}
use Rattle.world_law.specs.Laws.{IsChosen}
use Rattle.world_law.specs.Networks.{Network, Event, new_network, run}
use Rattle.world_law.proofs.Grows.{chosen_grows}
use Rattle.world_law.proofs.Induction.{chosen_came}
use Rattle.world_law.proofs.Reports.{reported_from}
use Rattle.world_law.proofs.Runs.{new_kept}
use Rattle.serving_law.specs.Federations.{Federation, Happening, after_all}
use Rattle.serving_law.specs.Reports.{Reports, records_of}
use Rattle.serving_law.specs.Rules.{MayAll}
use Rattle.serving_law.proofs.Scene.{OnlyNow}
use Rattle.serving_law.proofs.Networks.{HasDeposit, Stands}
use Rattle.serving_law.proofs.Happenings.{Went, went}
use Rattle.register_law.specs.Registers.{Register, Open, Decided, Becomes, Keeps, IsDecided}
use Rattle.register_law.specs.Carried.{IsHistoryAfter, left_by, now, WasDepositedIn, WasDeposited}
use Rattle.register_law.specs.Refinement.{KeepsOne, Begins, Steps, Refines, HistoriesRefine}
use Rattle.register_law.proofs.Counted.{some_register}
use Rattle.register_law.proofs.Led.{Setting, Led, led, may_both, after_both, in_federation}
use Rattle.register_law.proofs.Led.{decided_chosen, chosen_decided, decided_once}
use Rattle.register_law.proofs.Runs.{deposited_in, left_stands}

module _ {C : Type 0} {device : C → Device} {members : Membership}
    (setting : Setting device members) where
  abbrev q : QuorumSystem
  q = quorums_of members

  -- it keeps one register, where a network represents it
  one_register : {f : Federation C} {x : Network} → Stands device members f x
      → (slot : SlotName) → KeepsOne members f slot
  one_register {f} stands slot =
      let some = some_register members f slot in
      (some.0, some.1, λ other keeps. same some.0 other some.1 keeps)
    where
      same : (r s : Register) → Keeps members f slot r → Keeps members f slot s → s ≡ r
      same Open Open none nobody = refl
      same Open (Decided bag) none is = absurd (none bag is)
      same (Decided bag) Open is none = absurd (none bag is)
      same (Decided u) (Decided v) is other = ap Decided (decided_once setting stands other is)

  module _ {events : List Event} {history : List (Happening C)}
      (after_run : IsHistoryAfter device members events history) where
    abbrev w : Network
    w = run q new_network events

    abbrev start : Federation C
    start = left_by members events

    stands : Stands device members start w
    stands = left_stands device members setting.membership events after_run.formed

    parts : (before later : List (Happening C)) → history ≡ before ++ later
        → MayAll device members start before
        × MayAll device members (now members events before) later
    parts before later split =
        may_both device members start before later (rw split at after_run.happens)

    led_by : (before later : List (Happening C)) → history ≡ before ++ later
        → Led device members start before w
    led_by before later split = led setting before stands (parts before later split).0

    -- what is chosen in the network that it leads to was deposited
    chosen_deposited : {before : List (Happening C)} (l : Led device members start before w)
        {slot : SlotName} {bag : BagId} → IsChosen q l.x slot bag
        → WasDeposited members events before slot bag
    chosen_deposited {before} l {slot} {bag} chosen =
        chosen_came q (are_quorums members) l.x l.stands.kept (WasDeposited members events before)
        came slot bag chosen
      where
        came : (n : ℕ) (slot : SlotName) (bag : BagId) → HasDeposit l.x n slot bag
            → WasDeposited members events before slot bag
        came n slot bag d = elim (l.deposits n slot bag d) [
          | inl old ↦ inl (deposited_in q (are_quorums members) events n slot bag old)
          | inr since ↦ inr since
        ]

    -- ---- the beginning

    begins : Begins {C = C} members events start
    begins = record {
      from_open = from_open;
      reports = λ notice slot bag said is.
          chosen_decided setting stands
          (reported_from q (are_quorums members) events new_network (new_kept q) notice _ said is);
    }
      where
        from_open : (slot : SlotName) (r : Register) → Keeps members start slot r
            → Becomes (WasDepositedIn q events slot) Open r
        from_open slot Open none = tt
        from_open slot (Decided bag) is =
            chosen_came q (are_quorums members) w stands.kept (WasDepositedIn q events)
            (deposited_in q (are_quorums members) events) slot bag
            (decided_chosen setting stands is)

    -- ---- a step

    module _ (before : List (Happening C)) (h : Happening C) (later : List (Happening C))
        (split : history ≡ before ++ h ∷ later) where
      pub l : Led device members start before w
      l = led_by before (h ∷ later) split

      pub next : Went device members setting.membership setting.only_now
          (now members events before) h l.x
      unfolding MayAll
      next =
          went device members setting.membership setting.only_now (now members events before) l.x
          l.stands h (parts before (h ∷ later) split).1.0

      abbrev with_it : List (Happening C)
      with_it = before ++ h ∷ []

      l_with : Led device members start with_it w
      l_with = led_by with_it later (cc (append_assoc before (h ∷ []) later))

      -- what was decided before is decided then
      still : {slot : SlotName} {bag : BagId}
          → IsDecided members (now members events before) slot bag
          → IsDecided members (now members events with_it) slot bag
      unfolding after_all
      still d =
          rw (after_both start before (h ∷ []))
          (chosen_decided setting next.stands
          (chosen_grows next.grows (decided_chosen setting l.stands d)))

      stepped : (slot : SlotName) (old new : Register)
          → Keeps members (now members events before) slot old
          → Keeps members (now members events with_it) slot new
          → Becomes (WasDeposited members events with_it slot) old new
      stepped slot Open Open none nobody = tt
      stepped slot Open (Decided bag) none is =
          chosen_deposited l_with (decided_chosen setting l_with.stands is)
      stepped slot (Decided bag) Open is none = absurd (none bag (still is))
      stepped slot (Decided u) (Decided v) is other =
          ap Decided (decided_once setting l_with.stands other (still is))

      pub reported_came : (slot : SlotName) (bag : BagId)
          → Reports members.federation h slot bag → WasDeposited members events before slot bag
      reported_came slot bag r = chosen_deposited l (next.reports slot bag r)

      -- what a member has on record after it stays there
      pub stays : (n : ℕ) (slot : SlotName) (e : Entry) → HasEntry slot (next.x.sites n).records e
          → HasEntry slot (records_of ((now members events history).members n)) e
      unfolding after_all MayAll
      stays n slot e has =
          let rest = led setting later next.stands (parts before (h ∷ later) split).1.1 in
          rw (split, after_both start before (h ∷ later))
          (in_federation setting rest.stands n (rest.grows.kept n slot e has))

      steps : Steps members events before h
      steps = record {
        step = stepped;
        reports = λ slot bag r. chosen_decided setting l.stands (next.reports slot bag r);
      }

    refines : Refines device members events history
    refines = record {
      begins = begins;
      steps = steps;
      always = λ before later split slot. one_register (led_by before later split).stands slot;
    }

pub histories_refine : {C : Type 0} (device : C → Device) (members : Membership)
    → OnlyNow device → HistoriesRefine device members
histories_refine device members only_now events history is after_run =
    refines (record { membership = is; only_now = only_now }) after_run
