-- A run of events: what it leaves for a history to go on from, and where its deposits come from.
use Rattle.std.proofs.Common.{ℕ, ◌≡◌, ◌⊎◌, inl, inr, refl, sym, ap, List, [], ◌∷◌, ◌++◌, Some}
use Rattle.std.specs.Prelude.{Ok}
use Rattle.fed_types.specs.declared.bag_id.BagId.{BagId}
use Rattle.fed_types.specs.Quorums.{QuorumSystem, AreQuorums}
use Rattle.fed_types.specs.Sites.{Membership}
use Rattle.fed_types.specs.Slots.{SlotName}
use Rattle.fed_types.specs.Values.{IsMembership}
use Rattle.fed_types.specs.Laws.Lists.{has_none, has_map}
use Rattle.udp_site.specs.Traffic.{Post}
use Rattle.fed_types.specs.Laws.Quorums.{are_quorums}
use Rattle.cell_device.specs.Devices.{Device}
use Rattle.records.specs.declared.entry.Entry.TheVariants as entry
use Rattle.schedule.specs.declared.fate.Fate.{Fate}
use Rattle.audit.proofs.Reported.{run_on}
use Rattle.world_law.specs.Laws.{OnRecord, site_of}
use Rattle.world_law.specs.Networks.{Network, Event, Deposit, new_network, new_site, happens, run}
use Rattle.world_law.specs.WellFormed.{AreWellFormedEvents}
use Rattle.world_law.proofs.Kept.{Kept}
use Rattle.world_law.proofs.Reports.{chosen_from}
use Rattle.world_law.proofs.Runs.{DepositOf, happens_kept, new_kept, run_kept}
use Rattle.world_law.proofs.WellFormed.{new_is_well_formed, run_well_formed, members_are_sites}
use Rattle.serving_law.proofs.Networks.{quorums, Stands}
use Rattle.register_law.specs.Carried.{datagram_for, left_by, WasDepositedIn, NewCellsAreLeftByNone}
use Rattle.serving_law.specs.Federations.{new_federation}
use Rattle.register_law.proofs.Sayings.{run_speaks}
use Rattle.register_law.specs.Laws.{ChosenRemains}

-- ---- deposits

module _ (q : QuorumSystem) where
  -- one of these events, from a network on, has recorded the deposit
  record Came (w : Network) (events : List Event) (slot : SlotName) (bag : BagId) : Type 0 where
    before : List Event
    site : ℕ
    fate : Fate
    later : List Event
    split : events ≡ before ++ Deposit site slot (Ok bag) fate ∷ later
    on_record : OnRecord (happens q (run q w before) (Deposit site slot (Ok bag) fate)).network
        site slot (entry.Deposit bag)

  came_first : (w : Network) (e : Event) (es : List Event) (n : ℕ) (slot : SlotName) (bag : BagId)
      → site_of w e ≡ Some n → DepositOf e slot bag
      → OnRecord (happens q w e).network n slot (entry.Deposit bag)
      → Came w (e ∷ es) slot bag
  unfolding run
  came_first w (Deposit site s checked fate) es n slot bag at (same, found) kept =
      let is : Deposit site s checked fate ≡ Deposit n slot (Ok bag) fate = cc in
      record {
        before = [];
        site = n;
        fate = fate;
        later = es;
        split = cc is;
        on_record = rw is at kept;
      }
  came_first w _ es n slot bag at none kept = absurd none

  came_later : (w : Network) (e : Event) (es : List Event) (slot : SlotName) (bag : BagId)
      → Came (happens q w e).network es slot bag → Came w (e ∷ es) slot bag
  unfolding run
  came_later w e es slot bag c = record {
    before = e ∷ c.before;
    site = c.site;
    fate = c.fate;
    later = c.later;
    split = cc c.split;
    on_record = c.on_record;
  }

  came : AreQuorums q → (events : List Event) (w : Network) → Kept q w → (n : ℕ)
      (slot : SlotName) (bag : BagId) → OnRecord (run q w events) n slot (entry.Deposit bag)
      → OnRecord w n slot (entry.Deposit bag) ⊎ Came w events slot bag
  unfolding run
  came laws [] w inv n slot bag kept = inl kept
  came laws (e ∷ es) w inv n slot bag kept =
      let next = happens_kept q laws w inv e in
      elim (came laws es (happens q w e).network next.kept n slot bag kept) [
        | inl then ↦ elim (next.deposits n slot bag then) [
          | inl before ↦ inl before
          | inr new ↦ inr (came_first w e es n slot bag new.0 new.1 then)
        ]
        | inr later ↦ inr (came_later w e es slot bag later)
      ]

  pub deposited_in : AreQuorums q → (events : List Event) (n : ℕ) (slot : SlotName)
      (bag : BagId) → OnRecord (run q new_network events) n slot (entry.Deposit bag)
      → WasDepositedIn q events slot bag
  unfolding new_network new_site
  deposited_in laws events n slot bag kept =
      elim (came laws events new_network (new_kept q) n slot bag kept) [
        | inl old ↦ absurd (has_none old)
        | inr c ↦ record {
          before = c.before;
          site = c.site;
          fate = c.fate;
          later = c.later;
          split = c.split;
          on_record = c.on_record;
        }
      ]

pub chosen_remains : ChosenRemains
chosen_remains q events later slot bag laws chosen =
    rw (← run_on q events later new_network)
    (chosen_from q laws later (run q new_network events) (run_kept q laws events) slot bag chosen)

-- ---- what it leaves

module _ {C : Type 0} (device : C → Device) (members : Membership)
    (is_membership : IsMembership members) (events : List Event)
    (formed : AreWellFormedEvents events) where
  pub left_stands : Stands device members (left_by members events)
      (run (quorums device members) new_network events)
  left_stands = record {
    kept = run_kept (quorums device members) (are_quorums members) events;
    formed =
        run_well_formed (quorums device members) events new_network
        (members_are_sites members is_membership) formed new_is_well_formed;
    is = λ n. refl;
    handed = λ port bytes h.
        let from = has_map (datagram_for members.federation) _ h in
        inl (record {
          send = from.0;
          sent = from.1;
          bytes_are = ap (λ (p : Post). p.1) (sym from.2);
          speaks = run_speaks (quorums device members) events from.0 from.1;
        });
  }

pub new_cells_are_left_by_none : {C : Type 0} (device : C → Device) (members : Membership)
    → NewCellsAreLeftByNone device members
unfolding new_federation new_network new_site run
new_cells_are_left_by_none device members history may = record { formed = tt; happens = may }
