-- A site recovers, and hears which ballots the members that run have promised: its next ballot is
-- above them all.
use Rattle.std.proofs.Common.{ℕ, ◌≡◌, ◌≤◌, ◌<◌, ◌+◌, ◌⊎◌, max, Bool, true, false, cond, inl, inr}
use Rattle.std.proofs.Common.{refl, sym, ap, subst, ◌∙◌, List, [], ◌∷◌, ◌++◌, length, Option, None}
use Rattle.std.proofs.Common.{Some, append-nil, arith}
use Rattle.std.specs.Prelude.{Ok}
use Rattle.std.proofs.lemmas.Bool.{cases_eq, lt-ltb}
use Rattle.fed_types.specs.declared.bag_id.BagId.{BagId}
use Rattle.fed_types.specs.declared.vote.Vote.{Vote}
use Rattle.fed_types.specs.Ballots.{BallotNumber, below, Below}
use Rattle.fed_types.specs.Limits.{greatest_round}
use Rattle.fed_types.specs.Laws.Ballots.{below_decides}
use Rattle.fed_types.specs.Lists.{Has, here}
use Rattle.fed_types.specs.Quorums.{QuorumSystem}
use Rattle.fed_types.specs.Slots.{SlotName}
use Rattle.records.specs.declared.entry.Entry.TheVariants as entry
use Rattle.records.specs.declared.record.Record.{Record}
use Rattle.records.specs.SlotStates.{ballot_in, round_in, promised_of, vote_of, used_of, deposit_of}
use Rattle.records.specs.SlotStates.{known_of}
use Rattle.dgram.specs.declared.body.Body.{Body}
use Rattle.dgram.specs.declared.body.Body.TheVariants.{Prepare, Promise, Accept, Refused}
use Rattle.dgram.specs.Heard.{bodies_of, floor_of}
use Rattle.acceptor.specs.Decisions.{promises, refuses, on_prepare, prepare_decision}
use Rattle.proposer.specs.Proposals.{last_round, next_ballot, ready}
use Rattle.proposer.specs.VolatileStates.{VolatileState, hears, with_current}
use Rattle.site.specs.Arrivals.{proposing, on_body}
use Rattle.site.specs.Effects.{Effect, Send, to_each}
use Rattle.world_law.proofs.Order.{below_is}
use Rattle.world_law.specs.Networks.{Network}
use Rattle.reach_law.proofs.Words.{of_slot, said_self, Silent, promised_silent, used_silent}
use Rattle.reach_law.proofs.Words.{has_stays, used_now, promised_now, about, floor_quiet}
use Rattle.reach_law.proofs.Words.{floor_refused, to_site, to_each_has, some_same}
use Rattle.reach_law.proofs.Leads.{IsUp, Fresh, Took, took_stay, took_volatile, took_up, took_later}
use Rattle.reach_law.proofs.Leads.{took_fresh, took_new, spent, Leads, each, answered_leads}
use Rattle.reach_law.proofs.Leads.{recover_leads}
use Rattle.reach_law.specs.Running.{AreMembers, records_at, volatile_at, HasVoteOrDeposit}

-- it sends these, and has heard what came
abbrev pub sending : List Send → VolatileState → Effect
sending sends now = record { commits = None; sends = sends; says = Ok None; volatile = now }

pub proposing_is : (q : QuorumSystem) (slot : SlotName) (b : BallotNumber) (o : Option BagId)
    (now : VolatileState)
    → (sends : List Send) × (proposing q slot b o now ≡ sending sends now)
proposing_is q slot b None now = ([], refl)
proposing_is q slot b (Some bag) now =
    (to_each slot (Accept (record { ballot = b; bag = bag })) q.members, refl)

-- a ballot is promised that is above what was; or the promised one stands in its way
pub promise_if : (slot : SlotName) (rs : List Record) (b : BallotNumber)
    → ((a : BallotNumber) → promised_of slot rs ≡ Some a → Below a b)
    → prepare_decision slot rs b ≡ promises b (vote_of slot rs)
unfolding prepare_decision
promise_if slot rs b l = go (promised_of slot rs) l
  where
    go : (o : Option BallotNumber) → ((a : BallotNumber) → o ≡ Some a → Below a b)
        → on_prepare o (vote_of slot rs) b ≡ promises b (vote_of slot rs)
    go None l = refl
    go (Some a) l = rw ((below_decides a b).1 (l a refl)) refl

pub prepare_cases : (slot : SlotName) (rs : List Record) (b : BallotNumber)
    → ((a : BallotNumber) → promised_of slot rs ≡ Some a → Below a b)
    ⊎ ((a : BallotNumber) × (promised_of slot rs ≡ Some a)
    × (prepare_decision slot rs b ≡ refuses b a))
unfolding prepare_decision
prepare_cases slot rs b = go (promised_of slot rs)
  where
    test : (a : BallotNumber) (t : Bool) → below a b ≡ t
        → ((c : BallotNumber) → ◌≡◌ {A = Option BallotNumber} (Some a) (Some c) → Below c b)
        ⊎ (cond t (promises b (vote_of slot rs)) (refuses b a) ≡ refuses b a)
    test a true f = inl (λ c g. rw (← some_same g) (below_is a b f))
    test a false f = inr refl

    go : (o : Option BallotNumber) → ((a : BallotNumber) → o ≡ Some a → Below a b)
        ⊎ ((a : BallotNumber) × (o ≡ Some a) × (on_prepare o (vote_of slot rs) b ≡ refuses b a))
    go None = inl (λ c g. absurd (cc g))
    go (Some a) = elim (test a (below a b) refl) [
      | inl more ↦ inl more
      | inr refused ↦ inr (a, refl, refused)
    ]

module _ (q : QuorumSystem) (running : List ℕ) (slot : SlotName) (before : ℕ)
    (members : AreMembers q running) (p : ℕ) (runs : Has p running) where
  abbrev pub last : Network → ℕ
  last w = last_round slot (records_at w p) (volatile_at w p).heard

  -- no ballot that the member has promised is of a greater round than the site's last
  abbrev pub Seen : ℕ → Network → Type 0
  Seen n w = (b : BallotNumber) → promised_of slot (records_at w n) ≡ Some b → b.round ≤ last w

  pub record Room (w : Network) : Type 0 where
    pub up : (n : ℕ) → Has n running → IsUp w n
    pub later : before ≤ length w.sent
    pub has : HasVoteOrDeposit slot (records_at w p)
    pub room : last w < greatest_round
    pub rooms : (n : ℕ) → Has n running → (b : BallotNumber)
        → promised_of slot (records_at w n) ≡ Some b → b.round < greatest_round

  -- the ballot of a round
  abbrev pub ballot : ℕ → BallotNumber
  ballot r = record { round = r; site = p }

  -- all that run are asked to promise it
  pub record Asking (r : ℕ) (w : Network) : Type 0 where
    pub base : Room w
    pub used : r ≤ used_of slot (records_at w p)
    pub asked : (n : ℕ) → Has n running → Fresh before w.sent (to_site n slot (Prepare (ballot r)))

  -- ---- a recovery

  pub next_is : (w : Network) → last w < greatest_round
      → next_ballot p slot (records_at w p) (volatile_at w p).heard
      ≡ Some (ballot (1 + last w))
  unfolding next_ballot
  next_is w l = rw (lt-ltb (last w) greatest_round l) refl

  module _ (w : Network) (x : Network)
      (t : Took w p (Some (of_slot slot (entry.Round (1 + last w))))
      (with_current (volatile_at w p) slot (ballot (1 + last w)))
      (to_each slot (Prepare (ballot (1 + last w))) q.members) x) where
    begun_used : used_of slot (records_at x p) ≡ max (used_of slot (records_at w p)) (1 + last w)
    begun_used = ap (used_of slot) t.records ∙ used_now slot (records_at w p) (1 + last w)

    begun_floor : floor_of (bodies_of slot (volatile_at x p).heard)
        ≡ floor_of (bodies_of slot (volatile_at w p).heard)
    begun_floor = ap (λ (v : VolatileState). floor_of (bodies_of slot v.heard)) t.volatile_is

    pub begun_asked : before ≤ length w.sent → (n : ℕ) → Has n running
        → Fresh before x.sent (to_site n slot (Prepare (ballot (1 + last w))))
    begun_asked l n h = took_new t before _ l (to_each_has slot _ q.members n (members n h))

    pub begun_has : HasVoteOrDeposit slot (records_at w p) → HasVoteOrDeposit slot (records_at x p)
    begun_has has =
        took_stay (HasVoteOrDeposit slot) t
        (λ h.
        has_stays slot (records_at w p) h (Some (of_slot slot (entry.Round (1 + last w))))) p has

    pub begun_promised : (n : ℕ)
        → promised_of slot (records_at x n) ≡ promised_of slot (records_at w n)
    begun_promised n =
        took_stay
        (λ (rs : List Record). promised_of slot rs ≡ promised_of slot (records_at w n)) t
        (λ e.
        promised_silent slot (records_at w p) (Some (of_slot slot (entry.Round (1 + last w))))
        (said_self ballot_in slot (entry.Round (1 + last w))) ∙ e)
        n refl

    pub begun_asking : Room w → 2 + last w ≤ greatest_round → Asking (1 + last w) x
    begun_asking r l = record {
      base = record {
        up = λ n h. took_up t n (r.up n h);
        later = took_later t before r.later;
        has = begun_has r.has;
        room = omega (arith, begun_used, begun_floor);
        rooms = λ n h b e. r.rooms n h b (sym (begun_promised n) ∙ e);
      };
      used = omega (arith, begun_used);
      asked = begun_asked r.later;
    }

  -- the site recovers for the first time
  pub recovers_first : (w : Network) (k : ℕ) → Room w
      → known_of slot (records_at w p) ≡ None → 2 + last w ≤ greatest_round
      → ((x : Network) → Asking (1 + last w) x → Leads q running slot before x k)
      → Leads q running slot before w (1 + k)
  recovers_first w k r unknown l next =
      recover_leads q running slot before members w p (ballot (1 + last w)) k runs
      (r.up p runs) unknown r.has (next_is w r.room)
      (λ x t. next x (begun_asking w x t r l))

  -- ---- what one member answers

  module _ {r : ℕ} {w x y : Network} {n : ℕ} {commits : Option Record} {sends sends' : List Send}
      (answer : Body) (a : Asking r w)
      (t : Took w n commits (hears (volatile_at w n) (about slot (Prepare (ballot r)))) sends x)
      (u : Took x p None (hears (volatile_at x p) (about slot answer)) sends' y)
      (silent : Silent round_in slot commits) where
    same_records : (P : List Record → Type 0) (k : ℕ) → P (records_at x k) → P (records_at y k)
    same_records P k = took_stay P u (λ h. subst P (sym (append-nil (records_at x p))) h) k

    used_same : used_of slot (records_at y p) ≡ used_of slot (records_at w p)
    used_same =
        same_records
        (λ (rs : List Record). used_of slot rs ≡ used_of slot (records_at w p)) p
        (took_stay (λ (rs : List Record). used_of slot rs ≡ used_of slot (records_at w p)) t
        (λ e. used_silent slot (records_at w n) commits silent ∙ e) p refl)

    floor_same : floor_of (bodies_of slot (volatile_at x p).heard)
        ≡ floor_of (bodies_of slot (volatile_at w p).heard)
    floor_same =
        took_volatile
        (λ (v : VolatileState).
        floor_of (bodies_of slot v.heard) ≡ floor_of (bodies_of slot (volatile_at w p).heard)) t
        (λ e. floor_quiet slot (volatile_at w n).heard (Prepare (ballot r)) refl ∙ e) p refl

    floor_then : floor_of (bodies_of slot (volatile_at y p).heard)
        ≡ floor_of (bodies_of slot ((volatile_at x p).heard ++ about slot answer ∷ []))
    floor_then = ap (λ (v : VolatileState). floor_of (bodies_of slot v.heard)) u.volatile_is

    other_promised : (m : ℕ) → (m ≡ n → ⊥)
        → promised_of slot (records_at y m) ≡ promised_of slot (records_at w m)
    other_promised m differ =
        same_records
        (λ (rs : List Record). promised_of slot rs ≡ promised_of slot (records_at w m)) m
        (ap (λ s. promised_of slot s.records) (t.other m differ))

    module _ (more : last w ≤ last y) (bound : last y < greatest_round) (seen : Seen n y) where
      seen_stays : (m : ℕ) → Has m running → Seen m w → Seen m y
      seen_stays m h old = elim (cases_eq m n) [
        | inl same ↦ rw same seen
        | inr differ ↦
            λ b e. let l = old b (sym (other_promised m differ) ∙ e) in omega (arith, l, more)
      ]

      rooms_stay : (m : ℕ) → Has m running → (b : BallotNumber)
          → promised_of slot (records_at y m) ≡ Some b → b.round < greatest_round
      rooms_stay m h b e = elim (cases_eq m n) [
        | inl same ↦
            let l = seen b (rw (← same) e)
            in omega (arith, l, bound)
        | inr differ ↦ a.base.rooms m h b (sym (other_promised m differ) ∙ e)
      ]

      asking_stays : Asking r y
      asking_stays = record {
        base = record {
          up = λ m h. took_up u m (took_up t m (a.base.up m h));
          later = took_later u before (took_later t before a.base.later);
          has =
              same_records (HasVoteOrDeposit slot) p
              (took_stay (HasVoteOrDeposit slot) t
              (λ h. has_stays slot (records_at w n) h commits) p a.base.has);
          room = bound;
          rooms = rooms_stay;
        };
        used = rw used_same a.used;
        asked = λ m h. took_fresh u before _ (took_fresh t before _ (a.asked m h));
      }

      goes_on : {k : ℕ}
          → ((y : Network) → Asking r y → Seen n y
          → ((m : ℕ) → Has m running → Seen m w → Seen m y) → Leads q running slot before y k)
          → Leads q running slot before y k
      goes_on next = next y asking_stays seen seen_stays

  -- what comes of a promise, and of a refusal
  promised_seen : {r : ℕ} {w x y : Network} {n : ℕ} {sends sends' : List Send}
      (v : Option Vote) → Asking r w
      → ((a : BallotNumber) → promised_of slot (records_at w n) ≡ Some a → Below a (ballot r))
      → Took w n (Some (of_slot slot (entry.Promise (ballot r))))
      (hears (volatile_at w n) (about slot (Prepare (ballot r)))) sends x
      → Took x p None (hears (volatile_at x p) (about slot (Promise n (ballot r) v))) sends' y
      → (last y ≡ last w) × Seen n y
  promised_seen {r} {w} {x} {y} {n} v a l t u =
      let silent : Silent round_in slot (Some (of_slot slot (entry.Promise (ballot r)))) =
      said_self round_in slot (entry.Promise (ballot r)) in
      let used = used_same _ a t u silent in
      let early = floor_same _ a t u silent in
      let then = floor_then _ a t u silent in
      let late = floor_quiet slot (volatile_at x p).heard (Promise n (ballot r) v) refl in
      let same : last y ≡ last w = omega (arith, used, early, then, late) in
      let now : promised_of slot (records_at y n) ≡ Some (ballot r) =
      same_records _ a t u silent (λ (rs : List Record). promised_of slot rs ≡ Some (ballot r)) n
      (ap (promised_of slot) t.records ∙ promised_now slot (records_at w n) (ballot r) l) in (
        same,
        λ b e.
            let is : ballot r ≡ b = some_same (sym now ∙ e) in
            rw (← is) (omega (arith, used, a.used)),
      )

  refused_seen : {r : ℕ} {w x y : Network} {n : ℕ} {sends sends' : List Send}
      (c : BallotNumber) → Asking r w → promised_of slot (records_at w n) ≡ Some c
      → Took w n None (hears (volatile_at w n) (about slot (Prepare (ballot r)))) sends x
      → Took x p None (hears (volatile_at x p) (about slot (Refused n (ballot r) c))) sends' y
      → (last y ≡ max (last w) c.round) × Seen n y
  refused_seen {r} {w} {x} {y} {n} c a is t u =
      let used = used_same _ a t u tt in
      let early = floor_same _ a t u tt in
      let then = floor_then _ a t u tt in
      let late = floor_refused slot (volatile_at x p).heard n (ballot r) c in
      let all : last y ≡ max (last w) c.round = omega (arith, used, early, then, late) in
      let now : promised_of slot (records_at y n) ≡ Some c =
      same_records _ a t u tt (λ (rs : List Record). promised_of slot rs ≡ Some c) n
      (ap (promised_of slot) t.records ∙ ap (promised_of slot) (append-nil (records_at w n))
      ∙ is) in (
        all,
        λ b e.
            let same : c ≡ b = some_same (sym now ∙ e) in
            rw (← same) (omega (arith, all)),
      )

  -- one member more is asked
  module _ (r n : ℕ) (h : Has n running) (w : Network) (a : Asking r w) (k : ℕ)
      (next : (y : Network) → Asking r y → Seen n y
      → ((m : ℕ) → Has m running → Seen m w → Seen m y) → Leads q running slot before y k) where
    abbrev now : VolatileState
    now = hears (volatile_at w n) (about slot (Prepare (ballot r)))

    promised : ((a : BallotNumber) → promised_of slot (records_at w n) ≡ Some a
        → Below a (ballot r))
        → Leads q running slot before w (2 + k)
    unfolding on_body
    promised l =
        answered_leads q running slot before members w n p (Prepare (ballot r))
        (Promise n (ballot r) (vote_of slot (records_at w n)))
        (Some (entry.Promise (ballot r))) (p ∷ []) k h runs (a.base.up n h) (a.base.up p runs)
        a.base.later (a.asked n h) refl refl (here refl)
        (rw (promise_if slot (records_at w n) (ballot r) l) refl)
        (λ x t.
        let f =
        proposing_is q slot (ballot r)
        (ready q (deposit_of slot (records_at x p)) slot ((volatile_at x p).current slot)
        (volatile_at x p).heard (ballot r)
        (record { site = n; prior = vote_of slot (records_at w n) }))
        (hears (volatile_at x p)
        (about slot (Promise n (ballot r) (vote_of slot (records_at w n))))) in (
          sending f.0
              (hears (volatile_at x p)
              (about slot (Promise n (ballot r) (vote_of slot (records_at w n))))),
          f.1,
          λ y u.
              let s = promised_seen _ a l t u in
              let same : last y ≡ last w = s.0 in
              goes_on _ a t u (said_self round_in slot (entry.Promise (ballot r)))
              (omega (arith, same)) (omega (arith, same, a.base.room)) s.1 next,
        ))

    refused : (c : BallotNumber) → promised_of slot (records_at w n) ≡ Some c
        → prepare_decision slot (records_at w n) (ballot r) ≡ refuses (ballot r) c
        → Leads q running slot before w (2 + k)
    unfolding on_body
    refused c is decides =
        answered_leads q running slot before members w n p (Prepare (ballot r))
        (Refused n (ballot r) c) None (p ∷ []) k h runs (a.base.up n h) (a.base.up p runs)
        a.base.later (a.asked n h) refl refl (here refl)
        (rw decides refl)
        (λ x t. (
          sending [] (hears (volatile_at x p) (about slot (Refused n (ballot r) c))),
          refl,
          λ y u.
              let s = refused_seen c a is t u in
              let all : last y ≡ max (last w) c.round = s.0 in
              goes_on _ a t u tt (omega (arith, all))
              (omega (arith, all, a.base.room, a.base.rooms n h c is)) s.1 next,
        ))

  pub visit : (r : ℕ) (n : ℕ) → Has n running → (w : Network) → Asking r w → (k : ℕ)
      → ((y : Network) → Asking r y → Seen n y
      → ((m : ℕ) → Has m running → Seen m w → Seen m y) → Leads q running slot before y k)
      → Leads q running slot before w (2 + k)
  visit r n h w a k next =
      elim (prepare_cases slot (records_at w n) (ballot r)) [
        | inl l ↦ promised r n h w a k next l
        | inr f ↦ refused r n h w a k next f.0 f.1 f.2
      ]

  -- all that run are asked: then the site's last round is no less than any that they promised
  pub discovers : (r : ℕ) (w : Network) (k : ℕ) → Asking r w
      → ((y : Network) → Room y → ((n : ℕ) → Has n running → Seen n y)
      → Leads q running slot before y k)
      → Leads q running slot before w (spent 2 running k)
  discovers r w k a next =
      each q running slot before (Asking r) Seen 2 (visit r) running (λ n h. h) w a k
      (λ y a' seen stays. next y a'.base seen)
