-- After an undisturbed proposal, whatever came of it, the next ballot is above all that was
-- promised.
use Rattle.std.proofs.Common.{ℕ, ◌≡◌, ◌≤◌, ◌<◌, ◌+◌, ◌⊎◌, inl, inr, refl, sym, ap, ◌∙◌, List, []}
use Rattle.std.proofs.Common.{◌∷◌, ◌++◌, length, Option, None, Some, append-nil, arith}
use Rattle.std.proofs.Common.{length-append}
use Rattle.std.specs.Prelude.{⊤}
use Rattle.std.specs.Option.{option_to_list}
use Rattle.fed_types.specs.declared.bag_id.BagId.{BagId}
use Rattle.fed_types.specs.declared.vote.Vote.{Vote}
use Rattle.fed_types.specs.Ballots.{BallotNumber}
use Rattle.fed_types.specs.Limits.{greatest_round}
use Rattle.fed_types.specs.Lists.{Has, here}
use Rattle.fed_types.specs.Quorums.{QuorumSystem}
use Rattle.fed_types.specs.Slots.{SlotName}
use Rattle.records.specs.declared.entry.Entry.TheVariants as entry
use Rattle.records.specs.declared.record.Record.{Record}
use Rattle.records.specs.SlotStates.{ballot_in, round_in, promised_of, vote_of, said_in, used_of}
use Rattle.records.specs.SlotStates.{deposit_of, known_of}
use Rattle.dgram.specs.declared.body.Body.{Body}
use Rattle.dgram.specs.declared.body.Body.TheVariants.{Prepare, Promise, Accept, Accepted, Refused}
use Rattle.dgram.specs.Heard.{bodies_of, refused_round, floor_of}
use Rattle.acceptor.specs.declared.decision.Decision.{Decision}
use Rattle.acceptor.specs.Decisions.{accept_decision}
use Rattle.learner.specs.LearnedBags.{learned_from}
use Rattle.proposer.specs.Proposals.{ready, last_round}
use Rattle.proposer.specs.VolatileStates.{VolatileState, hears, with_current}
use Rattle.schedule.specs.declared.fate.Fate.TheVariants.{Whole}
use Rattle.site.specs.Arrivals.{decided, proposing, learning, on_body}
use Rattle.site.specs.Effects.{Effect, Send, to_each}
use Rattle.world_law.specs.Networks.{Network, Deliver, datagram_at, happens, run, Event}
use Rattle.reach_law.specs.Undisturbed.{CanPropose, KnowsOrCanOutbid, AllArrive, begun, in_the_end}
use Rattle.reach_law.specs.Undisturbed.{AreUndisturbed}
use Rattle.reach_law.proofs.Words.{of_slot, said_self, Silent, promised_silent, used_silent}
use Rattle.reach_law.proofs.Words.{deposit_stays, promised_now, about, floor_quiet, floor_refused}
use Rattle.reach_law.proofs.Words.{to_site, to_each_has, some_same, some_of, too_many}
use Rattle.reach_law.proofs.Words.{promised_cases}
use Rattle.reach_law.proofs.Leads.{IsUp, Fresh, Took, took_stay, took_volatile, took_up, took_later}
use Rattle.reach_law.proofs.Leads.{took_fresh, took_new, deliver_took, propose_took, fresh_stays}
use Rattle.reach_law.proofs.Arrived.{IsKind, news_one, news_each, news_none, AreKinds, kinds_more}
use Rattle.reach_law.proofs.Arrived.{GoesOn, all_done}
use Rattle.dgram.specs.Encoding.{body_from}
use Rattle.reach_law.proofs.Elsewhere.{Elsewhere, event_elsewhere}
use Rattle.reach_law.proofs.Discovering.{promise_if, prepare_cases, Room, Asking, next_is}
use Rattle.reach_law.proofs.Discovering.{begun_asking}
use Rattle.reach_law.proofs.Promising.{vote_for}
use Rattle.reach_law.proofs.Voting.{accept_cases}
use Rattle.reach_law.specs.Running.{records_at, volatile_at, AreMembers}

module _ (q : QuorumSystem) (running : List ℕ) (slot : SlotName) (before : ℕ)
    (members : AreMembers q running) (p : ℕ) (runs : Has p running) (own : BagId) (b : BallotNumber)
    (mine : b.site ≡ p) where
  abbrev pub last : Network → ℕ
  last x = last_round slot (records_at x p) (volatile_at x p).heard

  -- what was sent since
  abbrev pub KindOf : (to : ℕ) → Body → Type 0
  KindOf to (Prepare c) = c ≡ b
  KindOf to (Promise n c o) = (c ≡ b) × Has n running
  KindOf to (Accept vote) = vote.ballot ≡ b
  KindOf to (Accepted n vote) = Has n running
  KindOf to (Refused n c a) = Has n running × (to ≡ p) × (a.round < greatest_round)
  KindOf to _ = ⊥

  -- a promise stands in the ballot's way at no more than its round, or the site will hear of it
  abbrev pub IsSaid : Network → (n : ℕ) → BallotNumber → Type 0
  IsSaid x n a = (a.round ≤ b.round) ⊎ Fresh before x.sent (to_site p slot (Refused n b a))

  -- what has come of it, once it has arrived
  abbrev pub DoneOf : Network → (to : ℕ) → Body → Type 0
  DoneOf x to (Prepare c) =
      (a : BallotNumber) → promised_of slot (records_at x to) ≡ Some a → IsSaid x to a
  DoneOf x to (Refused n c a) = a.round ≤ last x
  DoneOf x to _ = ⊤

  pub record Inv (x : Network) : Type 0 where
    pub up : (n : ℕ) → Has n running → IsUp x n
    pub later : before ≤ length x.sent
    pub deposit : deposit_of slot (records_at x p) ≡ Some own
    pub prepared : (n : ℕ) → Has n running → Fresh before x.sent (to_site n slot (Prepare b))
    pub used : b.round ≤ used_of slot (records_at x p)
    pub room : last x < greatest_round
    pub rooms : (n : ℕ) → Has n running → (a : BallotNumber)
        → promised_of slot (records_at x n) ≡ Some a → a.round < greatest_round
    pub kinds : AreKinds slot KindOf before x.sent

  abbrev Goes : Network → Network → Type 0
  Goes = GoesOn q running slot before (λ x. KindOf) DoneOf Inv

  -- ---- what arrives

  module _ (x : Network) (inv : Inv x) (number to : ℕ) (h : Has to running) where
    abbrev then : Network
    then = (happens q x (Deliver number Whole)).network

    abbrev rs : List Record
    rs = records_at x to

    abbrev now : Body → VolatileState
    now body = hears (volatile_at x to) (about slot body)

    took_then : (from : ℕ) (body : Body) {e : Effect}
        → datagram_at number x.sent ≡ Some (to_site to slot body)
        → body_from body ≡ Some from → Has from running
        → on_body q to rs (volatile_at x to) (now body) slot body ≡ e
        → Took x to e.commits e.volatile e.sends then
    took_then from body {e} at by h' is =
        deliver_took q running slot before members x to from body e number h (inv.up to h) at by
        (members from h') is

    module _ (body : Body) {commits : Option Record} {sends : List Send}
        (t : Took x to commits (now body) sends then) (silent : Silent round_in slot commits)
        (promised : (a : BallotNumber)
        → promised_of slot (rs ++ option_to_list commits) ≡ Some a
        → (promised_of slot rs ≡ Some a) ⊎ (a.round ≤ b.round)) where
      used_same : used_of slot (records_at then p) ≡ used_of slot (records_at x p)
      used_same =
          took_stay (λ (rs : List Record). used_of slot rs ≡ used_of slot (records_at x p)) t
          (λ e. used_silent slot rs commits silent ∙ e) p refl

      last_same : refused_round body ≡ None → last then ≡ last x
      last_same none =
          let floor =
          took_volatile
          (λ (v : VolatileState).
          floor_of (bodies_of slot v.heard) ≡ floor_of (bodies_of slot (volatile_at x p).heard))
          t (λ e. floor_quiet slot (volatile_at x to).heard body none ∙ e) p refl in
          omega (arith, used_same, floor)

      promised_then : (n : ℕ) (a : BallotNumber) → promised_of slot (records_at then n) ≡ Some a
          → (promised_of slot (records_at x n) ≡ Some a) ⊎ (a.round ≤ b.round)
      promised_then n a =
          took_stay
          (λ (new : List Record).
          promised_of slot new ≡ Some a
          → (promised_of slot (records_at x n) ≡ Some a) ⊎ (a.round ≤ b.round)) t
          (λ f e. elim (promised a e) [ inl was ↦ f was | inr l ↦ inr l ]) n (λ e. inl e)

      said_stays : (n : ℕ) (a : BallotNumber) → IsSaid x n a → IsSaid then n a
      said_stays n a (inl l) = inl l
      said_stays n a (inr f) = inr (took_fresh t before _ f)

      come_stays : last x ≤ last then → (n : ℕ) (c : Body) → DoneOf x n c → DoneOf then n c
      come_stays more n (Prepare c) k = λ a e. elim (promised_then n a e) [
        | inl was ↦ said_stays n a (k a was)
        | inr l ↦ inl l
      ]
      come_stays more n (Refused m c a) k = omega (arith, k, more)
      come_stays more n _ k = tt

      goes_on : last x ≤ last then → last then < greatest_round
          → ((d : Send) → Has d sends → IsKind slot KindOf d) → DoneOf then to body
          → Goes x then × DoneOf then to body
      goes_on more room news come =
          (record { inv = inv_then; more = sends; sent = t.sent; stays = stays }, come)
        where
          stays : (n : ℕ) → Has n running → (c : Body) → DoneOf x n c → DoneOf then n c
          stays n h' c k = come_stays more n c k

          inv_then : Inv then
          inv_then = record {
            up = λ n h'. took_up t n (inv.up n h');
            later = took_later t before inv.later;
            deposit =
                took_stay (λ (rs : List Record). deposit_of slot rs ≡ Some own) t
                (λ e. deposit_stays slot rs own e commits) p inv.deposit;
            prepared = λ n h'. took_fresh t before _ (inv.prepared n h');
            used = omega (arith, inv.used, used_same);
            room = room;
            rooms = λ n h' a e. elim (promised_then n a e) [
              | inl was ↦ inv.rooms n h' a was
              | inr l ↦ omega (arith, l, inv.used, inv.room)
            ];
            kinds = kinds_more slot KindOf before t.sent inv.kinds news;
          }

      -- whatever but a refusal arrives
      goes_on_quiet : refused_round body ≡ None
          → ((d : Send) → Has d sends → IsKind slot KindOf d) → DoneOf then to body
          → Goes x then × DoneOf then to body
      goes_on_quiet none news come =
          let same = last_same none in
          goes_on (omega (arith, same)) (omega (arith, same, inv.room)) news come

    -- what was promised, where nothing of that is recorded
    none_more : (commits : Option Record) → Silent ballot_in slot commits → (a : BallotNumber)
        → promised_of slot (rs ++ option_to_list commits) ≡ Some a
        → (promised_of slot rs ≡ Some a) ⊎ (a.round ≤ b.round)
    none_more commits silent a e = inl (sym (promised_silent slot rs commits silent) ∙ e)

    one_more : (r : Record) → said_in ballot_in slot r ≡ Some b → (a : BallotNumber)
        → promised_of slot (rs ++ r ∷ []) ≡ Some a
        → (promised_of slot rs ≡ Some a) ⊎ (a.round ≤ b.round)
    one_more r says a e = elim (promised_cases slot rs b r says a e) [
      | inl was ↦ inl was
      | inr same ↦ inr (let f = ap (λ (c : BallotNumber). c.round) same in omega (arith, f))
    ]

    prepare_arrives : datagram_at number x.sent ≡ Some (to_site to slot (Prepare b))
        → Goes x then × DoneOf then to (Prepare b)
    unfolding on_body
    prepare_arrives at = elim (prepare_cases slot rs b) [
      | inl l ↦
          let t =
          took_then p (Prepare b) at (ap Some mine) runs
          (ap (λ (d : Decision). decided q to slot b.site d (now (Prepare b)))
          (promise_if slot rs b l)) in
          goes_on_quiet (Prepare b) t (said_self round_in slot (entry.Promise b))
          (one_more (of_slot slot (entry.Promise b)) (said_self ballot_in slot (entry.Promise b)))
          refl
          (news_one slot KindOf b.site (Promise to b (vote_of slot rs)) (refl, h))
          (λ a e.
          let same : b ≡ a =
          some_same (sym (ap (promised_of slot) t.records ∙ promised_now slot rs b l) ∙ e) in
          let f = ap (λ (c : BallotNumber). c.round) same in
          inl (omega (arith, f)))
      | inr f ↦
          let t =
          took_then p (Prepare b) at (ap Some mine) runs
          (ap (λ (d : Decision). decided q to slot b.site d (now (Prepare b))) f.2) in
          goes_on_quiet (Prepare b) t tt (none_more None tt) refl
          (news_one slot KindOf b.site (Refused to b f.0) (h, mine, inv.rooms to h f.0 f.1))
          (λ a e.
          let same : f.0 ≡ a =
          some_same
          (sym (ap (promised_of slot) t.records
          ∙ ap (promised_of slot) (append-nil rs) ∙ f.1) ∙ e) in
          inr
          (rw (← same) (took_new t before _ inv.later
          (to_each_has slot (Refused to b f.0) (b.site ∷ []) p (here mine)))))
    ]

    promise_arrives : (n : ℕ) (o : Option Vote) → Has n running
        → datagram_at number x.sent ≡ Some (to_site to slot (Promise n b o))
        → Goes x then × DoneOf then to (Promise n b o)
    unfolding on_body
    promise_arrives n o h' at =
        go
        (ready q (deposit_of slot rs) slot ((volatile_at x to).current slot)
        (volatile_at x to).heard b (record { site = n; prior = o })) refl
      where
        go : (u : Option BagId)
            → ready q (deposit_of slot rs) slot ((volatile_at x to).current slot)
            (volatile_at x to).heard b (record { site = n; prior = o })
            ≡ u
            → Goes x then × DoneOf then to (Promise n b o)
        go None e =
            let t =
            took_then n (Promise n b o) at refl h'
            (ap (λ (u : Option BagId). proposing q slot b u (now (Promise n b o))) e) in
            goes_on_quiet (Promise n b o) t tt (none_more None tt) refl (news_none slot KindOf) tt
        go (Some bag) e =
            let t =
            took_then n (Promise n b o) at refl h'
            (ap (λ (u : Option BagId). proposing q slot b u (now (Promise n b o))) e) in
            goes_on_quiet (Promise n b o) t tt (none_more None tt) refl
            (news_each slot KindOf q.members (Accept (vote_for b bag)) (λ m. refl)) tt

    accept_arrives : (vote : Vote) → vote.ballot ≡ b
        → datagram_at number x.sent ≡ Some (to_site to slot (Accept vote))
        → Goes x then × DoneOf then to (Accept vote)
    unfolding on_body
    accept_arrives vote is at = elim (accept_cases slot rs vote) [
      | inl (inl e) ↦
          goes_on_quiet (Accept vote) (took_vote e) tt (none_more None tt) refl
          (news_each slot KindOf q.members (Accepted to vote) (λ m. h)) tt
      | inl (inr e) ↦
          goes_on_quiet (Accept vote) (took_vote e) (said_self round_in slot (entry.Vote vote))
          (one_more (of_slot slot (entry.Vote vote))
          (said_self ballot_in slot (entry.Vote vote) ∙ ap Some is)) refl
          (news_each slot KindOf q.members (Accepted to vote) (λ m. h)) tt
      | inr f ↦
          goes_on_quiet (Accept vote) (took_vote f.2) tt (none_more None tt) refl
          (news_one slot KindOf vote.ballot.site (Refused to vote.ballot f.0)
          (h, ap (λ (c : BallotNumber). c.site) is ∙ mine, inv.rooms to h f.0 f.1)) tt
    ]
      where
        took_vote : {d : Decision} → accept_decision slot rs vote ≡ d
            → let e = decided q to slot vote.ballot.site d (now (Accept vote)) in
            Took x to e.commits e.volatile e.sends then
        took_vote e =
            took_then p (Accept vote) at (ap (λ (c : BallotNumber). Some c.site) is ∙ ap Some mine)
            runs (ap (λ (d : Decision). decided q to slot vote.ballot.site d (now (Accept vote))) e)

    vote_arrives : (n : ℕ) (vote : Vote) → Has n running
        → datagram_at number x.sent ≡ Some (to_site to slot (Accepted n vote))
        → Goes x then × DoneOf then to (Accepted n vote)
    unfolding on_body
    vote_arrives n vote h' at =
        go (learned_from q slot rs (volatile_at x to).heard n vote) refl
      where
        go : (u : Option BagId) → learned_from q slot rs (volatile_at x to).heard n vote ≡ u
            → Goes x then × DoneOf then to (Accepted n vote)
        go None e =
            let t =
            took_then n (Accepted n vote) at refl h'
            (ap (λ (u : Option BagId). learning slot u (now (Accepted n vote))) e) in
            goes_on_quiet (Accepted n vote) t tt (none_more None tt) refl (news_none slot KindOf) tt
        go (Some bag) e =
            let t =
            took_then n (Accepted n vote) at refl h'
            (ap (λ (u : Option BagId). learning slot u (now (Accepted n vote))) e) in
            goes_on_quiet (Accepted n vote) t (said_self round_in slot (entry.Known bag))
            (none_more (Some (of_slot slot (entry.Known bag)))
            (said_self ballot_in slot (entry.Known bag)))
            refl (news_none slot KindOf) tt

  refusal_arrives : (x : Network) (inv : Inv x) (number n : ℕ) (c a : BallotNumber)
      → Has n running → a.round < greatest_round
      → datagram_at number x.sent ≡ Some (to_site p slot (Refused n c a))
      → Goes x (then x inv number p runs) × (a.round ≤ last (then x inv number p runs))
  unfolding on_body
  refusal_arrives x inv number n c a h' l at =
      let t = took_then x inv number p runs n (Refused n c a) at refl h' refl in
      let none = none_more x inv number p runs None tt in
      let used = used_same x inv number p runs (Refused n c a) t tt none in
      let floor =
      ap (λ (v : VolatileState). floor_of (bodies_of slot v.heard)) t.volatile_is
      ∙ floor_refused slot (volatile_at x p).heard n c a in
      goes_on x inv number p runs (Refused n c a) t tt none
      (omega (arith, used, floor)) (omega (arith, used, floor, inv.room, l))
      (news_none slot KindOf) (omega (arith, used, floor))

  arrives : (x : Network) (inv : Inv x) (number to : ℕ) (h : Has to running) (body : Body)
      → KindOf to body → datagram_at number x.sent ≡ Some (to_site to slot body)
      → Goes x (then x inv number to h) × DoneOf (then x inv number to h) to body
  arrives x inv number to h (Prepare c) k at = prepare_arrives x inv number to h (rw (← k) at)
  arrives x inv number to h (Promise n c o) k at =
      promise_arrives x inv number to h n o k.1 (rw (← k.0) at)
  arrives x inv number to h (Accept vote) k at = accept_arrives x inv number to h vote k at
  arrives x inv number to h (Accepted n vote) k at = vote_arrives x inv number to h n vote k at
  arrives x inv number to h (Refused n c a) k at =
      refusal_arrives x inv number n c a k.0 k.2 (rw (← k.1) at)
  arrives x inv number to h _ k at = absurd k

  -- ---- what happens elsewhere

  module _ (x y : Network) (inv : Inv x) (e : Elsewhere slot q running x y) where
    fresh_grows : (d : Send) → Fresh before x.sent d → Fresh before y.sent d
    fresh_grows d f = rw e.sent (fresh_stays before x.sent e.more d f)

    last_again : last y ≡ last x
    last_again =
        let floor = ap floor_of (e.volatile p runs).bodies in
        omega (arith, (e.words p runs).used, floor)

    said_grows : (n : ℕ) (a : BallotNumber) → IsSaid x n a → IsSaid y n a
    said_grows n a (inl l) = inl l
    said_grows n a (inr f) = inr (fresh_grows _ f)

    come_grows : (n : ℕ) → Has n running → (c : Body) → DoneOf x n c → DoneOf y n c
    come_grows n h (Prepare c) k = λ a f. said_grows n a (k a (sym (e.words n h).promised ∙ f))
    come_grows n h (Refused m c a) k = omega (arith, k, last_again)
    come_grows n h _ k = tt

    goes_elsewhere : Goes x y
    goes_elsewhere = record {
      inv = record {
        up = λ n h. e.up n h (inv.up n h);
        later = rw e.sent (omega (arith, inv.later, length-append x.sent e.more));
        deposit = (e.words p runs).deposit ∙ inv.deposit;
        prepared = λ n h. fresh_grows _ (inv.prepared n h);
        used = omega (arith, inv.used, (e.words p runs).used);
        room = omega (arith, inv.room, last_again);
        rooms = λ n h a f. inv.rooms n h a (sym (e.words n h).promised ∙ f);
        kinds =
            kinds_more slot KindOf before e.sent inv.kinds (λ d new g. absurd (e.others d new g));
      };
      more = e.more;
      sent = e.sent;
      stays = come_grows;
    }

  -- ---- in the end

  pub outbids : (events : List Event) (x : Network) → Inv x
      → AreUndisturbed q running slot before x events
      → ((number : ℕ) (d : Send) → before < number
      → datagram_at number (run q x events).sent ≡ Some d → d.message.slot ≡ slot
      → Has d.to running → Has (Deliver number Whole) events)
      → KnowsOrCanOutbid (run q x events) running slot p
  outbids events x begins h all = go (known_of slot (records_at z p)) refl
    where
      z : Network
      z = run q x events

      end : Inv z
          × ((n : ℕ) → Has n running → (body : Body)
          → Fresh before z.sent (to_site n slot body) → DoneOf z n body)
      end =
          all_done q running slot before (λ x. KindOf) DoneOf Inv (λ x inv. inv.kinds) arrives
          (λ x inv e f.
          goes_elsewhere x _ inv (event_elsewhere slot q running x inv.up e f))
          events x begins h all

      seen : (n : ℕ) → Has n running → (a : BallotNumber)
          → promised_of slot (records_at z n) ≡ Some a → a.round ≤ last z
      seen n h a e = elim (end.1 n h (Prepare b) (end.0.prepared n h) a e) [
        | inl l ↦ omega (arith, l, end.0.used)
        | inr f ↦ end.1 p runs (Refused n b a) f
      ]

      go : (o : Option BagId) → known_of slot (records_at z p) ≡ o
          → KnowsOrCanOutbid z running slot p
      go (Some bag) e = inl (rw e refl)
      go None e = inr (record {
        ready = record {
          up = end.0.up;
          runs = runs;
          unknown = e;
          deposit = rw end.0.deposit refl;
        };
        ballot = record { round = 1 + last z; site = p };
        next = next_is q running slot before members p runs z end.0.room;
        above = λ n a h f. let l = seen n h a f in inl (omega (arith, l));
      })

-- ---- of a network

module _ (q : QuorumSystem) (running : List ℕ) (slot : SlotName) (members : AreMembers q running)
    (w : Network) (p : ℕ) (can : CanPropose w running slot p) where
  abbrev before : ℕ
  before = length w.sent

  abbrev own : (bag : BagId) × (deposit_of slot (records_at w p) ≡ Some bag)
  own = some_of (deposit_of slot (records_at w p)) can.ready.deposit

  abbrev b : BallotNumber
  b = record { round = 1 + last_round slot (records_at w p) (volatile_at w p).heard; site = p }

  abbrev x : Network
  x = begun q w slot p

  room : Room q running slot before members p can.ready.runs w
  room = record {
    up = can.ready.up;
    later = omega arith;
    has = inr can.ready.deposit;
    room = let l = can.left.own in omega (arith, l);
    rooms = λ n h a e. can.left.promised n a h e;
  }

  t : Took w p (Some (of_slot slot (entry.Round b.round)))
      (with_current (volatile_at w p) slot b) (to_each slot (Prepare b) q.members) x
  t = propose_took q running slot before members w p b own.0 can.ready.runs
      (can.ready.up p can.ready.runs) can.ready.unknown own.1
      (next_is q running slot before members p can.ready.runs w room.room)

  asking : Asking q running slot before members p can.ready.runs b.round x
  asking = begun_asking q running slot before members p can.ready.runs w x t room can.left.own

  begins : Inv q running slot before members p can.ready.runs own.0 b refl x
  begins = record {
    up = asking.base.up;
    later = asking.base.later;
    deposit =
        took_stay (λ (rs : List Record). deposit_of slot rs ≡ Some own.0) t
        (λ e.
        deposit_stays slot (records_at w p) own.0 e (Some (of_slot slot (entry.Round b.round)))) p
        own.1;
    prepared = asking.asked;
    used = asking.used;
    room = asking.base.room;
    rooms = asking.base.rooms;
    kinds =
        kinds_more slot kind before t.sent
        (λ number d l was. absurd (too_many number w.sent d l was))
        (news_each slot kind q.members (Prepare b) (λ n. refl));
  }
    where
      kind : (to : ℕ) → Body → Type 0
      kind = KindOf q running slot before members p can.ready.runs own.0 b refl

  pub outbids_then : (events : List Event) → AllArrive q w running slot p events
      → KnowsOrCanOutbid (in_the_end q w slot p events) running slot p
  outbids_then events all =
      outbids q running slot before members p can.ready.runs own.0 b refl events x begins
      all.no_others all.each_one
