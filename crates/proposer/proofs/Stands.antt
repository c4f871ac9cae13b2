-- What each call makes of what the rows represent.
use Rattle.std.proofs.Common.{◌≡◌, ℕ, max, Bool, true, false, cond, refl, ◌∙◌, List, [], ◌∷◌, ◌++◌}
use Rattle.std.proofs.Common.{Option, None, Some, IsSome}
use Rattle.std.specs.Prelude.{Box}
use Rattle.std.specs.declared.alloc.Global.{Global}
use Rattle.fed_types.specs.declared.bag_id.BagId.{BagId}
use Rattle.fed_types.specs.declared.vote.Vote.{Vote}
use Rattle.fed_types.specs.Ballots.{BallotNumber}
use Rattle.fed_types.specs.Quorums.{QuorumSystem, AreQuorums}
use Rattle.fed_types.specs.Slots.{SlotName, same_slot}
use Rattle.records.specs.declared.record.Record.{Record}
use Rattle.records.specs.SlotStates.{if_some, used_of}
use Rattle.dgram.specs.declared.body.Body.{Body}
use Rattle.dgram.specs.declared.message.Message.{Message}
use Rattle.dgram.specs.Heard.{body_in, bodies_of, promise_in, refused_round, floor_of}
use Rattle.slot_table.specs.Rows.{Rows, row_at, IsWith}
use Rattle.proposer.specs.declared.ballot_state.Plan.{Plan}
use Rattle.proposer.specs.BallotStates.{fresh, state_of}
use Rattle.proposer.specs.declared.row.Row.{Row}
use Rattle.proposer.specs.Proposals.{ballot_after, next_ballot, ready}
use Rattle.proposer.specs.VolatileStates.{VolatileState, new_volatile, at_slot, hears}
use Rattle.proposer.specs.VolatileStates.{promise_message, refusal_message}
use Rattle.proposer.specs.UnderWay.{UnderWay, nothing, begins, waits, heard_after, waiting_after}
use Rattle.proposer.specs.Rows.{Represents, row_of, current_in, KnowsSame}
use Rattle.proposer.specs.inner.Rows.{HeardAt, BeginsAt, with_begun, with_floor}
use Rattle.proposer.proofs.Gathered.{floor-push}
use Rattle.proposer.proofs.Known.{heard_knows, other_knows, kept_knows}
use Rattle.proposer.proofs.Promised.{gives_ready, After, after_is}
use Rattle.proposer.proofs.Tables.{row_there, puts_at, only_at, stands_at, here}

-- ---- one slot among others
pub at_here : {X : Type 0} (slot : SlotName) (x : Option X) (f : SlotName → Option X)
    → at_slot slot x f slot ≡ x
at_here slot x f = rw (here slot)

-- ---- a new proposer
pub nothing_known : (rows : Rows Row) → rows ≡ [] → Represents rows [] new_volatile nothing
unfolding used_of floor_of bodies_of
nothing_known rows e slot =
    rw e (record { used = refl; floor = refl; begun = refl; current = tt; waiting = refl })

-- ---- a ballot begun
pub next_is : (rows : Rows Row) (site : ℕ) (slot : SlotName)
    (records : List Record) (volatile : VolatileState) (under : UnderWay)
    → Represents rows records volatile under
    → ballot_after site (max (row_of rows slot).used (row_of rows slot).floor)
    ≡ next_ballot site slot records volatile.heard
unfolding next_ballot
next_is rows site slot records volatile under stands =
    let used = (stands slot).used in
    let floor = (stands slot).floor in
    λ i. ballot_after site (max (used i) (floor i))

pub begins_at : (old mid new : Rows Row) (slot : SlotName) (box : Box Plan Global) (plan : Plan)
    → KnowsSame old mid → IsWith mid new slot (with_begun (row_of mid slot) box)
    → box.value ≡ plan → BeginsAt (state_of plan) old new slot
begins_at old mid new slot box plan same put is =
    let row = with_begun (row_of old slot) box in
    let puts = puts_at (λ r. with_begun r box) old mid new slot same put in (
      only_at old new slot row puts,
      rw (row_there old new slot row puts)
          (record { used = refl; floor = refl; current = refl; begun = rw is }),
    )

pub begun_stands : (old new : Rows Row) (slot : SlotName) (ballot : BallotNumber)
    (records : List Record) (volatile : VolatileState) (under : UnderWay)
    → BeginsAt (fresh ballot) old new slot → Represents old records volatile under
    → Represents new records volatile (begins under slot ballot)
begun_stands old new slot ballot records volatile under at stands =
    let h = stands slot in
    stands_at old new slot (row_of new slot) records volatile (begins under slot ballot) at.0
    (rw (here slot)
    (record {
      used = at.1.used ∙ h.used;
      floor = at.1.floor ∙ h.floor;
      begun = at.1.begun;
      current = rw at.1.current h.current;
      waiting = rw at.1.current h.waiting;
    }))
    (λ s e. rw e (stands s))

-- the row that was put in is there
pub put_present : (old new : Rows Row) (slot : SlotName) (row : Row) → IsWith old new slot row
    → IsSome (row_at new slot)
put_present old new slot row put = rw (put slot, here slot) refl

-- ---- a message heard that is neither a promise nor a refusal: the site's other messages
pub heard_stands : (rows : Rows Row) (m : Message)
    (records : List Record) (volatile : VolatileState) (under : UnderWay)
    → refused_round m.body ≡ None
    → ((b : BallotNumber) → promise_in b m.body ≡ None) → Represents rows records volatile under
    → Represents rows records (hears volatile m) under
heard_stands rows m records volatile under refuses promises stands s =
    heard_knows m (stands s) refl refl refl (rw (says_nothing refused_round refuses))
    (λ b. says_nothing (promise_in b) (promises b))
  where
    says_nothing : {X : Type 0} (f : Body → Option X) → f m.body ≡ None
        → if_some f (body_in s m) ≡ None
    says_nothing f none = go (same_slot m.slot s)
      where
        go : (t : Bool) → if_some f (cond t (Some m.body) None) ≡ None
        go true = none
        go false = refl

-- ---- a refusal heard
pub refused_stands : (old mid new : Rows Row) (slot : SlotName) (n from : ℕ)
    (asked standing : BallotNumber) (records : List Record) (volatile : VolatileState)
    (under : UnderWay) → KnowsSame old mid
    → IsWith mid new slot (with_floor (row_of mid slot) n) → n ≡ standing.round
    → Represents old records volatile under
    → Represents new records (hears volatile (refusal_message slot from asked standing)) under
refused_stands old mid new slot n from asked standing records volatile under same put is stands =
    let m = refusal_message slot from asked standing in
    stands_at old new slot (with_floor (row_of old slot) n) records (hears volatile m) under
    (puts_at (λ row. with_floor row n) old mid new slot same put)
    (heard_knows m (stands slot) refl refl refl (rw (here slot, is)) (λ b. rw (here slot)))
    (λ s e. other_knows m (rw e) (stands s))

-- ---- a promise heard
module _ (q : QuorumSystem) (laws : AreQuorums q) (slot : SlotName) (from : ℕ)
    (ballot : BallotNumber) (prior : Option Vote) (own : Option BagId) (old new : Rows Row)
    (given : Option BagId) (records : List Record) (volatile : VolatileState) (under : UnderWay)
    (at : HeardAt q own ballot (record { site = from; prior = prior }) old new slot given)
    (stands : Represents old records volatile under) where
  pub promise_ready :
      given ≡ ready q own slot (volatile.current slot) volatile.heard ballot
      (record { site = from; prior = prior })
  promise_ready =
      rw at.1.bag
      (gives_ready slot from ballot prior volatile.heard q laws own (volatile.current slot)
      (current_in (row_of old slot)) (stands slot).current)

  pub promise_stands :
      Represents new records (heard_after given volatile (promise_message slot from ballot prior))
      (waiting_after given under (promise_message slot from ballot prior))
  promise_stands =
      go given
      (rw (at.1.current, at.1.bag)
      (after_is slot from ballot prior volatile.heard q own (volatile.current slot)
      (under.waiting slot) (current_in (row_of old slot)) (stands slot).current
      (stands slot).waiting))
    where
      m : Message
      m = promise_message slot from ballot prior

      floor_stays : floor_of (bodies_of slot (volatile.heard ++ m ∷ []))
          ≡ floor_of (bodies_of slot volatile.heard)
      floor_stays = rw (floor-push slot volatile.heard m, here slot)

      go : (o : Option BagId)
          → After slot from ballot prior volatile.heard (volatile.current slot)
          (under.waiting slot) (current_in (row_of new slot)) o
          → Represents new records (heard_after o volatile m) (waiting_after o under m)
      go None k =
          stands_at old new slot (row_of new slot) records (hears volatile m) under at.0
          (kept_knows (stands slot) at.1.used at.1.floor at.1.begun floor_stays k.0 k.1)
          (λ s e. other_knows m (rw e) (stands s))
      go (Some bag) k =
          stands_at old new slot (row_of new slot) records volatile (waits under slot (Some m)) at.0
          (rw (here slot)
          (kept_knows (stands slot) at.1.used at.1.floor at.1.begun refl k.0 k.1))
          (λ s e. rw e (stands s))
