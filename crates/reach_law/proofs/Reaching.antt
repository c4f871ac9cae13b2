-- A decision is within reach.
use Rattle.std.proofs.Common.{ℕ, ◌≡◌, ◌≤◌, ◌+◌, ◌*◌, inl, inr, refl, sym, ap, ◌∙◌, List, [], ◌∷◌}
use Rattle.std.proofs.Common.{length, Option, None, Some, arith}
use Rattle.fed_types.specs.declared.bag_id.BagId.{BagId}
use Rattle.fed_types.specs.Lists.{Has}
use Rattle.fed_types.specs.Quorums.{QuorumSystem, IsQuorum, AreQuorums}
use Rattle.fed_types.specs.Slots.{SlotName}
use Rattle.records.specs.declared.entry.Entry.TheVariants as entry
use Rattle.records.specs.SlotStates.{promised_of, known_of}
use Rattle.records.proofs.Bounds.{vote_bounds, known_among}
use Rattle.fed_types.specs.declared.vote.Vote.{Vote}
use Rattle.world_law.specs.Laws.{OnRecord, IsChosen}
use Rattle.world_law.specs.Networks.{Network, Event, new_network, happens, run}
use Rattle.world_law.proofs.Kept.{Kept}
use Rattle.world_law.proofs.Reports.{chosen_from}
use Rattle.world_law.proofs.Induction.{chosen_once}
use Rattle.world_law.proofs.Runs.{run_kept, happens_kept}
use Rattle.reach_law.proofs.Leads.{IsUp, spent, spent_is, Leads, leads_more}
use Rattle.reach_law.proofs.Opening.{Same, opens}
use Rattle.reach_law.proofs.Discovering.{Room, Seen, last, recovers_first, discovers}
use Rattle.reach_law.proofs.Promising.{vote_for, promises_all, recovers_second}
use Rattle.reach_law.proofs.Voting.{votes_all}
use Rattle.reach_law.proofs.Spreading.{KnowsAt, spreads}
use Rattle.reach_law.specs.Running.{records_at, AreMembers, HasVoteOrDeposit, RoundsAreLeft}
use Rattle.reach_law.specs.Running.{CanDecide}
use Rattle.reach_law.specs.Reach.{IsWithinReach}
use Rattle.reach_law.proofs.Words.{some_of}

module _ (q : QuorumSystem) (laws : AreQuorums q) (running : List ℕ) (slot : SlotName)
    (members : AreMembers q running) (quorum : IsQuorum q running) (w : Network) where
  abbrev before : ℕ
  before = length w.sent

  abbrev Reaches : Network → ℕ → Type 0
  Reaches x k = Leads q running slot before x k

  module _ (p : ℕ) (runs : Has p running) where
    spread : (x : Network) → ((n : ℕ) → Has n running → IsUp x n) → before ≤ length x.sent
        → KnowsAt slot p x → Reaches x (spent 3 running 0)
    spread x up later knows =
        spreads q running slot before members p runs x
        (record { up = up; later = later; knows = knows })

    later_of : (x : Network) → Same w x → before ≤ length x.sent
    later_of x same = rw same.sent (omega arith)

    from_known : KnowsAt slot p w → Reaches w (10 * length running + 2)
    from_known f =
        leads_more q running slot before w (spent 1 running (spent 3 running 0))
        (10 * length running + 2)
        (omega (arith, spent_is))
        (opens q running slot before members w (spent 3 running 0)
        (λ x same up.
        spread x up (later_of x same)
        (f.0, ap (known_of slot) (same.records p) ∙ f.1)))

    module _ (has : HasVoteOrDeposit slot (records_at w p))
        (left : RoundsAreLeft w running slot p) where
      abbrev RoomAt : Network → Type 0
      RoomAt x = Room q running slot before members p runs x

      abbrev last_of : Network → ℕ
      last_of x = last q running slot before members p runs x

      -- after the second recovery
      abbrev third : ℕ
      third = spent 2 running (spent 2 running (spent 3 running 0))

      -- after the first
      abbrev second : ℕ
      second = spent 2 running (1 + third)

      same_last : (x : Network) → Same w x → last_of x ≡ last_of w
      same_last x same = rw (same.records p, same.volatile p) refl

      room_of : (x : Network) → Same w x → ((n : ℕ) → Has n running → IsUp x n) → RoomAt x
      room_of x same up = record {
        up = up;
        later = later_of x same;
        has = rw (same.records p) has;
        room = let own = left.own in omega (arith, own, same_last x same);
        rooms = λ n h b e. left.promised n b h (sym (ap (promised_of slot) (same.records n)) ∙ e);
      }

      decides : (x : Network) → RoomAt x
          → ((n : ℕ) → Has n running
          → Seen q running slot before members p runs n x)
          → (o : Option BagId) → known_of slot (records_at x p) ≡ o → Reaches x (1 + third)
      decides x r seen (Some bag) e =
          leads_more q running slot before x (spent 3 running 0) (1 + third)
          (omega (arith, spent_is))
          (spread x r.up r.later (bag, e))
      decides x r seen None e =
          recovers_second q laws running slot before members quorum p runs x third r seen e
          (λ y b mine old g waits.
          promises_all q laws running slot before members quorum p runs b mine old y
          (spent 2 running (spent 3 running 0)) g waits
          (λ z up later promised asked.
          votes_all q running slot before members p runs (vote_for b asked.bag) mine z
          (spent 3 running 0)
          (record {
            up = up;
            later = later;
            asked = asked.asked;
            can = λ n h. inr ((promised n h).promised, (promised n h).lower);
          })
          laws quorum
          spread))

      begins : (x : Network) → Same w x → ((n : ℕ) → Has n running → IsUp x n)
          → (o : Option BagId) → known_of slot (records_at x p) ≡ o → Reaches x (1 + second)
      begins x same up (Some bag) e =
          leads_more q running slot before x (spent 3 running 0) (1 + second)
          (omega (arith, spent_is))
          (spread x up (later_of x same) (bag, e))
      begins x same up None e =
          recovers_first q running slot before members p runs x second
          (room_of x same up) e
          (let own = left.own in omega (arith, own, same_last x same))
          (λ y a.
          discovers q running slot before members p runs (1 + last_of x) y (1 + third) a
          (λ z r seen. decides z r seen (known_of slot (records_at z p)) refl))

      from_bag : Reaches w (10 * length running + 2)
      from_bag =
          leads_more q running slot before w (spent 1 running (1 + second))
          (10 * length running + 2)
          (omega (arith, spent_is))
          (opens q running slot before members w (1 + second)
          (λ x same up. begins x same up (known_of slot (records_at x p)) refl))

  -- from any network
  pub leads : CanDecide w running slot → Reaches w (10 * length running + 2)
  leads c = elim c.can [
    | inl known ↦ from_known c.site c.runs (some_of _ known)
    | inr able ↦ from_bag c.site c.runs able.0 able.1
  ]

-- ---- of a network of a run all know the bag that was chosen

module _ (q : QuorumSystem) (laws : AreQuorums q) (slot : SlotName) where
  pub run_on_kept : (events : List Event) (w : Network) → Kept q w → Kept q (run q w events)
  unfolding run
  run_on_kept [] w kept = kept
  run_on_kept (e ∷ events) w kept =
      run_on_kept events (happens q w e).network (happens_kept q laws w kept e).kept

  pub known_chosen : (w : Network) → Kept q w → (n : ℕ) (v : BagId)
      → known_of slot (records_at w n) ≡ Some v → IsChosen q w slot v
  known_chosen w kept n v e =
      kept.records n slot (entry.Known v) (known_among slot (records_at w n) v e)

pub within_reach : (q : QuorumSystem) (events : List Event) (running : List ℕ) (slot : SlotName)
    → AreQuorums q → AreMembers q running → IsQuorum q running
    → CanDecide (run q new_network events) running slot
    → IsWithinReach q (run q new_network events) running slot
within_reach q events running slot laws members quorum can =
    let kept = run_on_kept q laws slot l.events w (run_kept q laws events) in
    let some = laws.meet running running quorum quorum in
    let bag = some_of (known_of slot (records_at x some.0)) (l.known some.0 some.2) in
    let chosen = known_chosen q laws slot x kept some.0 bag.0 bag.1 in
    record {
      events = l.events;
      few = l.few;
      calm = l.calm;
      bag = bag.0;
      known = λ n h.
          let its = some_of (known_of slot (records_at x n)) (l.known n h) in
          its.1
          ∙ ap Some (chosen_once q x laws kept slot its.0 bag.0
          (known_chosen q laws slot x kept n its.0 its.1) chosen);
      chosen = λ v c.
          chosen_once q x laws kept slot v bag.0
          (chosen_from q laws l.events w (run_kept q laws events) slot v c) chosen;
    }
  where
    w : Network
    w = run q new_network events

    l : Leads q running slot (length w.sent) w (10 * length running + 2)
    l = leads q laws running slot members quorum w can

    x : Network
    x = run q w l.events

-- ---- what is chosen

-- a vote on record is one
pub has_voted : (w : Network) (n : ℕ) (slot : SlotName) (vote : Vote)
    → OnRecord w n slot (entry.Vote vote) → HasVoteOrDeposit slot (records_at w n)
has_voted w n slot vote h =
    let top = vote_bounds slot (records_at w n) vote h in
    inl (rw top.is refl)

pub chosen_within_reach : (q : QuorumSystem) (events : List Event) (running : List ℕ)
    (slot : SlotName) (bag : BagId) → AreQuorums q → AreMembers q running → IsQuorum q running
    → IsChosen q (run q new_network events) slot bag
    → ((n : ℕ) → Has n running → RoundsAreLeft (run q new_network events) running slot n)
    → IsWithinReach q (run q new_network events) running slot
chosen_within_reach q events running slot bag laws members quorum chosen left =
    let voter = laws.meet running chosen.chosen.voters quorum chosen.chosen.quorum in
    within_reach q events running slot laws members quorum
    (record {
      site = voter.0;
      runs = voter.2;
      can =
          inr (
            has_voted (run q new_network events) voter.0 slot _
                (chosen.chosen.voted voter.0 voter.3),
            left voter.0 voter.2,
          );
    })
