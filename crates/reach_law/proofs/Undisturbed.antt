-- A ballot whose datagrams all arrive, in any order and however often, is decided.
use Rattle.std.proofs.Common.{ℕ, ◌≡◌, ◌≤◌, ◌<◌, ◌⊎◌, Bool, true, false, cond, inl, inr, refl, sym}
use Rattle.std.proofs.Common.{ap, subst, ◌∙◌, List, [], ◌∷◌, ◌++◌, length, Option, None, Some}
use Rattle.std.proofs.Common.{append-nil, arith, length-append}
use Rattle.std.specs.Prelude.{⊤}
use Rattle.std.specs.List.{cons_option}
use Rattle.std.specs.Option.{option_to_list}
use Rattle.std.proofs.lemmas.Bool.{cases_eq, false≢true, false_from_ne_true}
use Rattle.fed_types.specs.declared.bag_id.BagId.{BagId}
use Rattle.fed_types.specs.declared.vote.Vote.{Vote}
use Rattle.fed_types.specs.Ballots.{BallotNumber, below, Below, same_ballot}
use Rattle.fed_types.specs.Lists.{Has, here, there}
use Rattle.fed_types.specs.Quorums.{QuorumSystem, IsQuorum, AreQuorums}
use Rattle.fed_types.specs.Slots.{SlotName}
use Rattle.fed_types.specs.Laws.Ballots.{same_ballot_decides, below_decides, Below-irreflexive}
use Rattle.fed_types.specs.Laws.Ballots.{Below-cases}
use Rattle.fed_types.specs.Laws.Lists.{has_none, has_right, map_has}
use Rattle.records.specs.declared.entry.Entry.TheVariants as entry
use Rattle.records.specs.declared.record.Record.{Record}
use Rattle.records.specs.SlotStates.{ballot_in, promised_of, vote_of, said_in, deposit_of, known_of}
use Rattle.records.proofs.Bounds.{vote_among}
use Rattle.records.proofs.SlotStates.{promised-push}
use Rattle.dgram.specs.declared.body.Body.{Body}
use Rattle.dgram.specs.declared.body.Body.TheVariants.{Prepare, Promise, Accept, Accepted, Refused}
use Rattle.dgram.specs.declared.message.Message.{Message}
use Rattle.dgram.specs.Heard.{bodies_of, voter_in, voters_for, same_vote, PromiseFrom, promise_in}
use Rattle.dgram.specs.Heard.{promisers}
use Rattle.acceptor.specs.declared.decision.Decision.{Decision}
use Rattle.acceptor.specs.Decisions.{promises, refuses, votes, is_vote, is_in_ballot, on_new_accept}
use Rattle.acceptor.specs.Decisions.{prepare_decision, accept_decision}
use Rattle.learner.proofs.HeardVotes.{same_vote_decides}
use Rattle.learner.specs.LearnedBags.{unless_known, chosen_by}
use Rattle.proposer.specs.Proposals.{Current, gathered, highest_prior, bag_of, completes, proposal}
use Rattle.proposer.specs.Proposals.{ready}
use Rattle.proposer.proofs.Gathered.{bodies-push}
use Rattle.proposer.specs.VolatileStates.{VolatileState, hears}
use Rattle.schedule.specs.declared.fate.Fate.TheVariants.{Whole}
use Rattle.site.specs.Arrivals.{decided, proposing, learning, on_body}
use Rattle.site.specs.Effects.{Effect, Send, to_each}
use Rattle.world_law.specs.Laws.{WasSent}
use Rattle.world_law.specs.Networks.{Network, Event, Deliver, datagram_at, happens, run}
use Rattle.world_law.proofs.Heard.{gathered_promise, gathered_stays}
use Rattle.world_law.proofs.Kept.{Kept}
use Rattle.world_law.proofs.Runs.{happens_kept}
use Rattle.world_law.proofs.Sends.{at_number}
use Rattle.reach_law.specs.Undisturbed.{AreUndisturbed}
use Rattle.reach_law.proofs.Words.{not_completed, of_slot, said_self, promised_silent}
use Rattle.reach_law.proofs.Words.{deposit_stays, known_now, promised_now, about, body_self}
use Rattle.reach_law.proofs.Words.{hears_more, longer, to_site, to_each_has, some_same}
use Rattle.reach_law.proofs.Words.{promised_cases}
use Rattle.reach_law.proofs.Leads.{IsUp, Fresh, Took, took_stay, took_volatile, took_up, took_later}
use Rattle.reach_law.proofs.Leads.{took_fresh, took_new, deliver_took, fresh_stays}
use Rattle.reach_law.proofs.Arrived.{IsKind, news_one, news_each, news_none, AreKinds, kinds_more}
use Rattle.reach_law.proofs.Arrived.{GoesOn, all_done}
use Rattle.dgram.specs.Encoding.{body_from}
use Rattle.reach_law.proofs.Discovering.{promise_if}
use Rattle.reach_law.proofs.Elsewhere.{Elsewhere, event_elsewhere}
use Rattle.reach_law.proofs.Promising.{vote_for, gathered_same}
use Rattle.reach_law.proofs.Spreading.{KnowsAt, took_known}
use Rattle.reach_law.proofs.Voting.{is_vote_itself, decides_again, voter_self, voters_stay}
use Rattle.reach_law.specs.Running.{AreMembers, records_at, volatile_at}

-- a message that is no vote leaves the voters
voters_quiet : (slot : SlotName) (heard : List Message) (body : Body) (vote : Vote)
    → voter_in vote body ≡ None → voters_for vote (bodies_of slot (hears_more heard slot body))
    ≡ voters_for vote (bodies_of slot heard)
unfolding voters_for
voters_quiet slot heard body vote none =
    rw (bodies-push slot heard (about slot body), body_self slot body)
    (quiet (bodies_of slot heard))
  where
    quiet : (bodies : List Body) → voters_for vote (bodies ++ body ∷ []) ≡ voters_for vote bodies
    quiet [] = rw none refl
    quiet (c ∷ bodies) = ap (cons_option (voter_in vote c)) (quiet bodies)

-- a ballot on top of what was promised: no more than both
promised_within : (slot : SlotName) (rs : List Record) (b : BallotNumber) (r : Record)
    → said_in ballot_in slot r ≡ Some b
    → ((a : BallotNumber) → promised_of slot rs ≡ Some a → ¬ Below b a)
    → (a : BallotNumber) → promised_of slot (rs ++ r ∷ []) ≡ Some a → ¬ Below b a
promised_within slot rs b r says low a e = elim (promised_cases slot rs b r says a e) [
  | inl was ↦ low a was
  | inr same ↦ rw (← same) (Below-irreflexive b)
]

not_below : (b : BallotNumber) → below b b ≡ false
not_below b = false_from_ne_true (below b b) (λ e. Below-irreflexive b ((below_decides b b).0 e))

-- a ballot that is promised already stays so
promised_again : (slot : SlotName) (rs : List Record) (b : BallotNumber) (r : Record)
    → said_in ballot_in slot r ≡ Some b → promised_of slot rs ≡ Some b
    → promised_of slot (rs ++ r ∷ []) ≡ Some b
promised_again slot rs b r says is = rw (promised-push slot rs r, says, is, not_below b) refl

refuse_if : (slot : SlotName) (rs : List Record) (b : BallotNumber)
    → promised_of slot rs ≡ Some b → prepare_decision slot rs b ≡ refuses b b
unfolding prepare_decision
refuse_if slot rs b e = rw (e, not_below b) refl

module _ (q : QuorumSystem) (laws : AreQuorums q) (running : List ℕ) (slot : SlotName) (before : ℕ)
    (members : AreMembers q running) (quorum : IsQuorum q running) (p : ℕ) (runs : Has p running)
    (own : BagId) (b : BallotNumber) (mine : b.site ≡ p) (old : ℕ) where
  abbrev pub current : Current
  current = record { ballot = b; heard_before = old }

  abbrev pub gathered_at : Network → List PromiseFrom
  gathered_at x = gathered slot current (volatile_at x p).heard

  abbrev pub voters_at : Network → (m : ℕ) → BagId → List ℕ
  voters_at x m v = voters_for (vote_for b v) (bodies_of slot (volatile_at x m).heard)

  -- all that run are asked to vote for the bag in the ballot
  abbrev pub AskedFor : Network → BagId → Type 0
  AskedFor x bag =
      (n : ℕ) → Has n running
      → Fresh before x.sent (to_site n slot (Accept (vote_for b bag)))

  abbrev pub VotesAsked : Network → Type 0
  VotesAsked x = (bag : BagId) × AskedFor x bag

  -- what was sent since
  abbrev pub KindOf : Network → (to : ℕ) → Body → Type 0
  KindOf x to (Prepare c) = c ≡ b
  KindOf x to (Promise n c o) = (c ≡ b) × Has n running × (to ≡ p)
  KindOf x to (Accept vote) = (vote.ballot ≡ b) × AskedFor x vote.bag
  KindOf x to (Accepted n vote) = (vote.ballot ≡ b) × Has n running
  KindOf x to (Refused n a c) = Has n running
  KindOf x to _ = ⊥

  -- what has come of it, once it has arrived
  abbrev pub DoneOf : Network → (to : ℕ) → Body → Type 0
  DoneOf x to (Prepare c) = promised_of slot (records_at x to) ≡ Some b
  DoneOf x to (Promise n c o) = Has n (promisers (gathered_at x))
  DoneOf x to (Accept vote) =
      (m : ℕ) → Has m running → Fresh before x.sent (to_site m slot (Accepted to vote))
  DoneOf x to (Accepted n vote) = Has n (voters_for vote (bodies_of slot (volatile_at x to).heard))
  DoneOf x to _ = ⊤

  -- a member that has promised the ballot has said so, or votes were asked for
  abbrev pub HasAnswered : Network → (n : ℕ) → Type 0
  HasAnswered x n =
      ((o : Option Vote) × Fresh before x.sent (to_site p slot (Promise n b o))) ⊎ VotesAsked x

  pub record Inv (x : Network) : Type 0 where
    pub kept : Kept q x
    pub prepared : (n : ℕ) → Has n running → Fresh before x.sent (to_site n slot (Prepare b))
    pub up : (n : ℕ) → Has n running → IsUp x n
    pub later : before ≤ length x.sent
    pub deposit : deposit_of slot (records_at x p) ≡ Some own
    pub is_current : (volatile_at x p).current slot ≡ Some current
    pub within : old ≤ length (volatile_at x p).heard
    pub low : (n : ℕ) → Has n running → (a : BallotNumber)
        → promised_of slot (records_at x n) ≡ Some a → ¬ Below b a
    pub answered : (n : ℕ) → Has n running → promised_of slot (records_at x n) ≡ Some b
        → HasAnswered x n
    pub kinds : AreKinds slot (KindOf x) before x.sent
    pub asks : IsQuorum q (promisers (gathered_at x)) → VotesAsked x
    pub learns : (m : ℕ) → Has m running → (v : BagId) → IsQuorum q (voters_at x m v)
        → KnowsAt slot m x

  abbrev Goes : Network → Network → Type 0
  Goes = GoesOn q running slot before KindOf DoneOf Inv

  -- ---- what stays, while more is sent

  module _ (x y : Network)
      (fresh : (d : Send) → Fresh before x.sent d → Fresh before y.sent d) where
    votes_stay : VotesAsked x → VotesAsked y
    votes_stay a = (a.0, λ n h. fresh _ (a.1 n h))

    answered_stays : (n : ℕ) → HasAnswered x n → HasAnswered y n
    answered_stays n (inl a) = inl (a.0, fresh _ a.1)
    answered_stays n (inr a) = inr (votes_stay a)

    kind_stays : (n : ℕ) (c : Body) → KindOf x n c → KindOf y n c
    kind_stays n (Prepare c) k = k
    kind_stays n (Promise m c o) k = k
    kind_stays n (Accept vote) k = (k.0, λ m h. fresh _ (k.1 m h))
    kind_stays n _ k = k

  -- ---- what arrives

  module _ (x : Network) (inv : Inv x) (number to : ℕ) (h : Has to running) where
    abbrev then : Network
    then = (happens q x (Deliver number Whole)).network

    abbrev rs : List Record
    rs = records_at x to

    abbrev now : Body → VolatileState
    now body = hears (volatile_at x to) (about slot body)

    took_then : (from : ℕ) (body : Body) {e : Effect}
        → datagram_at number x.sent ≡ Some (to_site to slot body)
        → body_from body ≡ Some from → Has from running
        → on_body q to rs (volatile_at x to) (now body) slot body ≡ e
        → Took x to e.commits e.volatile e.sends then
    took_then from body {e} at by h' is =
        deliver_took q running slot before members x to from body e number h (inv.up to h) at by
        (members from h') is

    none_promised : promised_of slot (rs ++ option_to_list None) ≡ promised_of slot rs
    none_promised = ap (promised_of slot) (append-nil rs)

    module _ (body : Body) {commits : Option Record} {sends : List Send}
        (t : Took x to commits (now body) sends then) where
      fresh : (d : Send) → Fresh before x.sent d → Fresh before then.sent d
      fresh d f = took_fresh t before d f

      gathered_more : (n : ℕ) → Has n (promisers (gathered_at x))
          → Has n (promisers (gathered_at then))
      gathered_more n has =
          (took_volatile
          (λ (s : VolatileState).
          (old ≤ length s.heard) × Has n (promisers (gathered slot current s.heard))) t
          (λ l. (
            longer (volatile_at x to).heard (about slot body) old l.0,
            gathered_stays slot current (volatile_at x to).heard (about slot body) l.0 n l.1,
          ))
          p (inv.within, has)).1

      come_stays : (promised_of slot rs ≡ Some b
          → promised_of slot (rs ++ option_to_list commits) ≡ Some b)
          → (n : ℕ) (c : Body) → DoneOf x n c → DoneOf then n c
      come_stays promised n (Prepare c) k =
          took_stay (λ (rs : List Record). promised_of slot rs ≡ Some b) t promised n k
      come_stays promised n (Promise m c o) k = gathered_more m k
      come_stays promised n (Accept vote) k = λ m h'. took_fresh t before _ (k m h')
      come_stays promised n (Accepted m vote) k =
          took_volatile
          (λ (s : VolatileState). Has m (voters_for vote (bodies_of slot s.heard))) t
          (λ k. voters_stay slot vote (volatile_at x to).heard (about slot body) m k) n k
      come_stays promised n _ k = tt

      -- the site knows a bag, once a quorum has voted for it
      abbrev Learns : BagId → Type 0
      Learns v =
          IsQuorum q (voters_for (vote_for b v)
          (bodies_of slot (hears_more (volatile_at x to).heard slot body)))
          → KnowsAt slot to then

      goes_on : (promised_of slot rs ≡ Some b
          → promised_of slot (rs ++ option_to_list commits) ≡ Some b)
          → ((a : BallotNumber)
          → promised_of slot (rs ++ option_to_list commits) ≡ Some a → ¬ Below b a)
          → (promised_of slot (rs ++ option_to_list commits) ≡ Some b → HasAnswered then to)
          → ((d : Send) → Has d sends → IsKind slot (KindOf then) d)
          → (IsQuorum q (promisers (gathered_at then)) → VotesAsked then)
          → ((v : BagId) → Learns v) → DoneOf then to body → Goes x then × DoneOf then to body
      goes_on promised low_now answers news asks learns come = (
        record {
          inv = inv_then;
          more = sends;
          sent = t.sent;
          stays = λ n h' c k. come_stays promised n c k;
        },
        come,
      )
        where
          inv_then : Inv then
          inv_then = record {
            kept = (happens_kept q laws x inv.kept (Deliver number Whole)).kept;
            prepared = λ n h'. took_fresh t before _ (inv.prepared n h');
            up = λ n h'. took_up t n (inv.up n h');
            later = took_later t before inv.later;
            deposit =
                took_stay (λ (rs : List Record). deposit_of slot rs ≡ Some own) t
                (λ e. deposit_stays slot rs own e commits) p inv.deposit;
            is_current =
                took_volatile (λ (s : VolatileState). s.current slot ≡ Some current) t (λ e. e) p
                inv.is_current;
            within =
                took_volatile (λ (s : VolatileState). old ≤ length s.heard) t
                (λ l. longer (volatile_at x to).heard (about slot body) old l) p inv.within;
            low = λ n h'.
                took_stay
                (λ (rs : List Record).
                (a : BallotNumber) → promised_of slot rs ≡ Some a → ¬ Below b a) t
                (λ l. low_now) n (inv.low n h');
            answered = answered_now;
            kinds =
                kinds_more slot (KindOf then) before t.sent
                (λ k d l e f. kind_stays x then fresh d.to d.message.body (inv.kinds k d l e f))
                news;
            asks = asks;
            learns = learns_all;
          }
            where
              answered_now : (n : ℕ) → Has n running
                  → promised_of slot (records_at then n) ≡ Some b → HasAnswered then n
              answered_now n h' e = elim (cases_eq n to) [
                | inl same ↦
                    rw same (answers (sym (ap (promised_of slot) t.records) ∙ rw (← same) e))
                | inr differ ↦
                    answered_stays x then fresh n
                    (inv.answered n h' (rw (t.other n differ, records_at) at e))
              ]

              learns_all : (m : ℕ) → Has m running → (v : BagId)
                  → IsQuorum q (voters_at then m v) → KnowsAt slot m then
              learns_all m h' v e = elim (cases_eq m to) [
                | inl same ↦
                    let voters : IsQuorum q (voters_at then to v) = rw (← same) e in
                    rw same (learns v (rw t.volatile_is at voters))
                | inr differ ↦ took_known slot m t (inv.learns m h' v (rw (← t.other m differ) e))
              ]

      -- where nothing more is promised
      goes_on_quiet : promised_of slot (rs ++ option_to_list commits) ≡ promised_of slot rs
          → ((d : Send) → Has d sends → IsKind slot (KindOf then) d)
          → (IsQuorum q (promisers (gathered_at then)) → VotesAsked then)
          → ((v : BagId) → Learns v) → DoneOf then to body → Goes x then × DoneOf then to body
      goes_on_quiet same =
          goes_on (λ e. same ∙ e) (λ a e. inv.low to h a (sym same ∙ e))
          (λ e. answered_stays x then fresh to (inv.answered to h (sym same ∙ e)))

      -- of a message that is no promise
      asks_still : promise_in b body ≡ None
          → IsQuorum q (promisers (gathered_at then)) → VotesAsked then
      asks_still no_promise e =
          votes_stay x then fresh
          (inv.asks (rw (← gathered_same slot current p body t inv.within no_promise) e))

      -- of one that is no vote for the bag
      learns_still : (v : BagId) → voter_in (vote_for b v) body ≡ None → Learns v
      learns_still v none e =
          took_known slot to t
          (inv.learns to h v
          (rw (← voters_quiet slot (volatile_at x to).heard body (vote_for b v) none) e))

    -- the ballot's Prepare
    module _ (at : datagram_at number x.sent ≡ Some (to_site to slot (Prepare b))) where
      took_prepare : {d : Decision} → prepare_decision slot rs b ≡ d
          → let e = decided q to slot b.site d (now (Prepare b)) in
          Took x to e.commits e.volatile e.sends then
      unfolding on_body
      took_prepare e =
          took_then p (Prepare b) at (ap Some mine) runs
          (ap (λ (d : Decision). decided q to slot b.site d (now (Prepare b))) e)

      waits : ((a : BallotNumber) → promised_of slot rs ≡ Some a → Below a b)
          → Goes x then × DoneOf then to (Prepare b)
      waits l =
          let t = took_prepare (promise_if slot rs b l) in
          goes_on (Prepare b) t (λ e. absurd (Below-irreflexive b (l b e)))
          (promised_within slot rs b (of_slot slot (entry.Promise b))
          (said_self ballot_in slot (entry.Promise b)) (inv.low to h))
          (λ e.
          inl (
            vote_of slot rs,
            took_new t before _ inv.later
                (to_each_has slot (Promise to b (vote_of slot rs)) (b.site ∷ []) p (here mine)),
          ))
          (news_one slot (KindOf then) b.site (Promise to b (vote_of slot rs)) (refl, h, mine))
          (asks_still (Prepare b) t refl) (λ v. learns_still (Prepare b) t v refl)
          (ap (promised_of slot) t.records ∙ promised_now slot rs b l)

      stands : promised_of slot rs ≡ Some b → Goes x then × DoneOf then to (Prepare b)
      stands is =
          let t = took_prepare (refuse_if slot rs b is) in
          goes_on_quiet (Prepare b) t none_promised
          (news_one slot (KindOf then) b.site (Refused to b b) h)
          (asks_still (Prepare b) t refl) (λ v. learns_still (Prepare b) t v refl)
          (ap (promised_of slot) t.records ∙ none_promised ∙ is)

      prepare_arrives : Goes x then × DoneOf then to (Prepare b)
      prepare_arrives = go (promised_of slot rs) refl
        where
          go : (o : Option BallotNumber) → promised_of slot rs ≡ o
              → Goes x then × DoneOf then to (Prepare b)
          go None e = waits (λ c f. absurd (cc (sym e ∙ f)))
          go (Some a) e = elim (Below-cases a b) [
            | inl l ↦ waits (λ c f. rw (← some_same (sym e ∙ f)) l)
            | inr (inl same) ↦ stands (e ∙ ap Some same)
            | inr (inr more) ↦ absurd (inv.low to h a e more)
          ]

    -- a request to vote
    module _ (vote : Vote) (is : vote.ballot ≡ b) (asked : AskedFor x vote.bag)
        (at : datagram_at number x.sent ≡ Some (to_site to slot (Accept vote))) where
      took_accept : {d : Decision} → accept_decision slot rs vote ≡ d
          → let e = decided q to slot vote.ballot.site d (now (Accept vote)) in
          Took x to e.commits e.volatile e.sends then
      unfolding on_body
      took_accept e =
          took_then p (Accept vote) at (ap (λ (c : BallotNumber). Some c.site) is ∙ ap Some mine)
          runs (ap (λ (d : Decision). decided q to slot vote.ballot.site d (now (Accept vote))) e)

      was_sent : WasSent x slot (Accept vote)
      was_sent =
          record { to = to; is_sent = at_number number x.sent (to_site to slot (Accept vote)) at }

      not_in : is_vote vote (vote_of slot rs) ≡ false
          → (o : Option Vote) → vote_of slot rs ≡ o → is_in_ballot vote.ballot o ≡ false
      not_in other None e = refl
      not_in other (Some u) e =
          false_from_ne_true (same_ballot u.ballot vote.ballot)
          (λ f.
          let ballots : u.ballot ≡ vote.ballot = (same_ballot_decides u.ballot vote.ballot).0 f in
          let on = vote_among slot rs u e in
          let bags : u.bag ≡ vote.bag =
          inv.kept.one slot vote.ballot u.bag vote.bag
          (rw (← ballots) (inv.kept.records to slot (entry.Vote u) on))
          was_sent in
          let same : u ≡ vote = λ i. record { ballot = ballots i; bag = bags i } in
          false≢true (sym other
          ∙ ap (is_vote vote) (e ∙ ap Some same) ∙ is_vote_itself slot vote rs))

      votes_new : is_vote vote (vote_of slot rs) ≡ false → accept_decision slot rs vote ≡ votes vote
      unfolding accept_decision
      votes_new other = rw other (go (promised_of slot rs) refl)
        where
          go : (o : Option BallotNumber) → promised_of slot rs ≡ o
              → on_new_accept o (vote_of slot rs) vote ≡ votes vote
          go None e = refl
          go (Some a) e =
              rw (
                false_from_ne_true (below vote.ballot a)
                    (λ f. inv.low to h a e (rw (← is) ((below_decides vote.ballot a).0 f))),
                not_in other (vote_of slot rs) refl,
              ) refl

      -- it votes, and says so to all
      says_so : {commits : Option Record}
          → Took x to commits (now (Accept vote)) (to_each slot (Accepted to vote) q.members) then
          → DoneOf then to (Accept vote)
      says_so t m h' =
          took_new t before _ inv.later
          (to_each_has slot (Accepted to vote) q.members m (members m h'))

      accept_arrives : Goes x then × DoneOf then to (Accept vote)
      accept_arrives = go (is_vote vote (vote_of slot rs)) refl
        where
          go : (t : Bool) → is_vote vote (vote_of slot rs) ≡ t
              → Goes x then × DoneOf then to (Accept vote)
          go true e =
              let t = took_accept (decides_again slot vote rs e) in
              goes_on_quiet (Accept vote) t none_promised
              (news_each slot (KindOf then) q.members (Accepted to vote) (λ n. (is, h)))
              (asks_still (Accept vote) t refl) (λ v. learns_still (Accept vote) t v refl)
              (says_so t)
          go false e =
              let t = took_accept (votes_new e) in
              let says : said_in ballot_in slot (of_slot slot (entry.Vote vote)) ≡ Some b =
              said_self ballot_in slot (entry.Vote vote) ∙ ap Some is in
              goes_on (Accept vote) t
              (promised_again slot rs b (of_slot slot (entry.Vote vote)) says)
              (promised_within slot rs b (of_slot slot (entry.Vote vote)) says (inv.low to h))
              (λ e. inr (vote.bag, λ m h'. took_fresh t before _ (asked m h')))
              (news_each slot (KindOf then) q.members (Accepted to vote) (λ n. (is, h)))
              (asks_still (Accept vote) t refl) (λ v. learns_still (Accept vote) t v refl)
              (says_so t)

    -- a vote
    module _ (n : ℕ) (vote : Vote) (is : vote.ballot ≡ b) (h' : Has n running)
        (at : datagram_at number x.sent ≡ Some (to_site to slot (Accepted n vote))) where
      abbrev heard_then : List ℕ
      heard_then =
          voters_for vote
          (bodies_of slot (hears_more (volatile_at x to).heard slot (Accepted n vote)))

      -- what the site learns of it
      took_vote : (o : Option BagId) → known_of slot rs ≡ o → (t : Bool)
          → q.is_quorum heard_then ≡ t → let e =
          learning slot (unless_known o (cond t (Some vote.bag) None)) (now (Accepted n vote)) in
          Took x to e.commits e.volatile e.sends then
      unfolding on_body chosen_by
      took_vote o e t f =
          took_then n (Accepted n vote) {
          e = learning slot (unless_known o (cond t (Some vote.bag) None))
          (now (Accepted n vote))
          } at refl h' (rw (e, f) refl)

      come_v : {commits : Option Record} {sends : List Send}
          → Took x to commits (now (Accepted n vote)) sends then → DoneOf then to (Accepted n vote)
      come_v t = rw t.volatile_is (voter_self slot vote (volatile_at x to).heard n)

      -- nothing is recorded
      silent : (t : Took x to None (now (Accepted n vote)) [] then)
          → ((v : BagId) → Learns (Accepted n vote) t v)
          → Goes x then × DoneOf then to (Accepted n vote)
      silent t learns =
          goes_on_quiet (Accepted n vote) t none_promised (news_none slot (KindOf then))
          (asks_still (Accepted n vote) t refl) learns (come_v t)

      vote_arrives : Goes x then × DoneOf then to (Accepted n vote)
      vote_arrives = go (known_of slot rs) refl (q.is_quorum heard_then) refl
        where
          go : (o : Option BagId) → known_of slot rs ≡ o → (t : Bool)
              → q.is_quorum heard_then ≡ t → Goes x then × DoneOf then to (Accepted n vote)
          go (Some bag) e c f =
              let t = took_vote (Some bag) e c f in
              silent t (λ v quorum. took_known slot to t (bag, e))
          go None e false f =
              let t = took_vote None e false f in
              silent t (λ v quorum. test t v quorum (same_vote vote (vote_for b v)) refl)
            where
              test : (t : Took x to None (now (Accepted n vote)) [] then) (v : BagId)
                  → IsQuorum q (voters_for (vote_for b v)
                  (bodies_of slot (hears_more (volatile_at x to).heard slot (Accepted n vote))))
                  → (c : Bool) → same_vote vote (vote_for b v) ≡ c → KnowsAt slot to then
              test t v quorum true same =
                  absurd (false≢true (sym f
                  ∙ subst (λ (u : Vote).
                  q.is_quorum (voters_for u
                  (bodies_of slot
                  (hears_more (volatile_at x to).heard slot (Accepted n vote)))) ≡ true)
                  (sym ((same_vote_decides vote (vote_for b v)).0 same)) quorum))
              test t v quorum false other =
                  learns_still (Accepted n vote) t v
                  (ap (λ (c : Bool). cond c (Some n) None) other) quorum
          go None e true f =
              let t = took_vote None e true f in
              goes_on_quiet (Accepted n vote) t
              (promised_silent slot rs (Some (of_slot slot (entry.Known vote.bag)))
              (said_self ballot_in slot (entry.Known vote.bag)))
              (news_none slot (KindOf then)) (asks_still (Accepted n vote) t refl)
              (λ v quorum.
              (vote.bag, ap (known_of slot) t.records ∙ known_now slot rs vote.bag e))
              (come_v t)

    refusal_arrives : (n : ℕ) (a c : BallotNumber) → Has n running
        → datagram_at number x.sent ≡ Some (to_site to slot (Refused n a c))
        → Goes x then × DoneOf then to (Refused n a c)
    unfolding on_body
    refusal_arrives n a c h' at =
        let t = took_then n (Refused n a c) at refl h' refl in
        goes_on_quiet (Refused n a c) t none_promised (news_none slot (KindOf then))
        (asks_still (Refused n a c) t refl) (λ v. learns_still (Refused n a c) t v refl) tt

  -- a promise
  module _ (x : Network) (inv : Inv x) (number n : ℕ) (o : Option Vote) (h : Has n running)
      (at : datagram_at number x.sent ≡ Some (to_site p slot (Promise n b o))) where
    abbrev now_o : VolatileState
    now_o = hears (volatile_at x p) (about slot (Promise n b o))

    abbrev then_o : Network
    then_o = then x inv number p runs

    abbrev from_n : PromiseFrom
    from_n = record { site = n; prior = o }

    ready_is : (t : Bool) → completes q (gathered_at x) from_n ≡ t
        → ready q (deposit_of slot (records_at x p)) slot ((volatile_at x p).current slot)
        (volatile_at x p).heard b from_n
        ≡ cond t (bag_of (highest_prior (gathered_at x ++ from_n ∷ [])) (Some own)) None
    unfolding proposal
    ready_is t e = rw (inv.deposit, inv.is_current, (same_ballot_decides b b).1 refl, e) refl

    gathered_then : {commits : Option Record} {sends : List Send}
        → Took x p commits now_o sends then_o → gathered_at then_o ≡ gathered_at x ++ from_n ∷ []
    gathered_then t =
        ap (λ (s : VolatileState). gathered slot current s.heard) t.volatile_is
        ∙ gathered_promise slot current (volatile_at x p).heard n o inv.within

    come_o : {commits : Option Record} {sends : List Send}
        → Took x p commits now_o sends then_o → DoneOf then_o p (Promise n b o)
    unfolding promisers
    come_o t =
        rw (gathered_then t) (map_has (λ (p : PromiseFrom). p.site) {x = from_n}
        (has_right (gathered_at x) (here refl)))

    some_bag : (u : Option Vote) → (bag : BagId) × (bag_of u (Some own) ≡ Some bag)
    some_bag None = (own, refl)
    some_bag (Some u) = (u.bag, refl)

    took_promise : {d : Option BagId}
        → ready q (deposit_of slot (records_at x p)) slot ((volatile_at x p).current slot)
        (volatile_at x p).heard b from_n ≡ d
        → let e = proposing q slot b d now_o in
        Took x p e.commits e.volatile e.sends then_o
    unfolding on_body
    took_promise e =
        took_then x inv number p runs n (Promise n b o) at refl h
        (ap (λ (d : Option BagId). proposing q slot b d now_o) e)

    promise_arrives : Goes x then_o × DoneOf then_o p (Promise n b o)
    promise_arrives = go (completes q (gathered_at x) from_n) refl
      where
        go : (c : Bool) → completes q (gathered_at x) from_n ≡ c
            → Goes x then_o × DoneOf then_o p (Promise n b o)
        go true e =
            let f = some_bag (highest_prior (gathered_at x ++ from_n ∷ [])) in
            let t = took_promise (ready_is true e ∙ f.1) in
            let asked : AskedFor then_o f.0 = λ m h'.
            took_new t before _ inv.later
            (to_each_has slot (Accept (vote_for b f.0)) q.members m (members m h')) in
            goes_on_quiet x inv number p runs (Promise n b o) t
            (none_promised x inv number p runs)
            (news_each slot (KindOf then_o) q.members (Accept (vote_for b f.0))
            (λ m. (refl, asked)))
            (λ quorum. (f.0, asked))
            (λ v. learns_still x inv number p runs (Promise n b o) t v refl) (come_o t)
        go false e =
            let t = took_promise (ready_is false e) in
            goes_on_quiet x inv number p runs (Promise n b o) t
            (none_promised x inv number p runs) (news_none slot (KindOf then_o))
            (λ quorum.
            votes_stay x then_o (took_fresh t before)
            (inv.asks
            (not_completed _ (q.is_quorum (promisers (gathered_at x))) e
            (rw (← gathered_then t) quorum))))
            (λ v. learns_still x inv number p runs (Promise n b o) t v refl) (come_o t)

  -- whatever arrives
  arrives : (x : Network) (inv : Inv x) (number to : ℕ) (h : Has to running) (body : Body)
      → KindOf x to body → datagram_at number x.sent ≡ Some (to_site to slot body)
      → Goes x (then x inv number to h) × DoneOf (then x inv number to h) to body
  arrives x inv number to h (Prepare c) k at = prepare_arrives x inv number to h (rw (← k) at)
  arrives x inv number to h (Promise n c o) k at =
      promise_arrives x inv number n o k.1 (rw (← k.2) (rw (← k.0) at))
  arrives x inv number to h (Accept vote) k at = accept_arrives x inv number to h vote k.0 k.1 at
  arrives x inv number to h (Accepted n vote) k at =
      vote_arrives x inv number to h n vote k.0 k.1 at
  arrives x inv number to h (Refused n a c) k at = refusal_arrives x inv number to h n a c k at
  arrives x inv number to h _ k at = absurd k

  -- ---- what happens elsewhere

  module _ (x y : Network) (inv : Inv x) (e : Elsewhere slot q running x y)
      (kept : Kept q y) where
    fresh_grows : (d : Send) → Fresh before x.sent d → Fresh before y.sent d
    fresh_grows d f = rw e.sent (fresh_stays before x.sent e.more d f)

    gathered_again : gathered_at y ≡ gathered_at x
    gathered_again = (e.volatile p runs).promises current inv.within

    come_grows : (n : ℕ) → Has n running → (c : Body) → DoneOf x n c → DoneOf y n c
    come_grows n h (Prepare c) k = (e.words n h).promised ∙ k
    come_grows n h (Promise m c o) k = rw gathered_again k
    come_grows n h (Accept vote) k = λ m h'. fresh_grows _ (k m h')
    come_grows n h (Accepted m vote) k = rw (e.volatile n h).bodies k
    come_grows n h _ k = tt

    goes_elsewhere : Goes x y
    goes_elsewhere = record {
      inv = record {
        kept = kept;
        prepared = λ n h. fresh_grows _ (inv.prepared n h);
        up = λ n h. e.up n h (inv.up n h);
        later = rw e.sent (omega (arith, inv.later, length-append x.sent e.more));
        deposit = (e.words p runs).deposit ∙ inv.deposit;
        is_current = (e.volatile p runs).current ∙ inv.is_current;
        within = (e.volatile p runs).within old inv.within;
        low = λ n h a f. inv.low n h a (sym (e.words n h).promised ∙ f);
        answered = λ n h f.
            answered_stays x y fresh_grows n
            (inv.answered n h (sym (e.words n h).promised ∙ f));
        kinds =
            kinds_more slot (KindOf y) before e.sent
            (λ k d l was g. kind_stays x y fresh_grows d.to d.message.body (inv.kinds k d l was g))
            (λ d new g. absurd (e.others d new g));
        asks = λ f. votes_stay x y fresh_grows (inv.asks (rw (← gathered_again) f));
        learns = λ m h v f.
            let g = inv.learns m h v (rw (← (e.volatile m h).bodies) f) in
            (g.0, (e.words m h).known ∙ g.1);
      };
      more = e.more;
      sent = e.sent;
      stays = come_grows;
    }

  -- ---- in the end

  module _ (x : Network) (inv : Inv x)
      (come_of : (n : ℕ) → Has n running → (body : Body)
      → Fresh before x.sent (to_site n slot body) → DoneOf x n body) where
    -- votes were asked for, or all of these promises were gathered
    gathered_or : (ns : List ℕ) → ((n : ℕ) → Has n ns → Has n running)
        → VotesAsked x ⊎ ((n : ℕ) → Has n ns → Has n (promisers (gathered_at x)))
    gathered_or [] among = inr (λ n h. absurd (has_none h))
    gathered_or (n ∷ ns) among =
        more (inv.answered n (among n (here refl))
        (come_of n (among n (here refl)) (Prepare b) (inv.prepared n (among n (here refl)))))
        (gathered_or ns (λ m h. among m (there h)))
      where
        with_first : Has n (promisers (gathered_at x))
            → ((m : ℕ) → Has m ns → Has m (promisers (gathered_at x)))
            → (m : ℕ) → Has m (n ∷ ns) → Has m (promisers (gathered_at x))
        with_first first rest m (here e) = rw (← e) first
        with_first first rest m (there h) = rest m h

        more : HasAnswered x n
            → VotesAsked x ⊎ ((m : ℕ) → Has m ns → Has m (promisers (gathered_at x)))
            → VotesAsked x ⊎ ((m : ℕ) → Has m (n ∷ ns) → Has m (promisers (gathered_at x)))
        more (inr asked) rest = inl asked
        more (inl f) (inl asked) = inl asked
        more (inl f) (inr rest) = inr (with_first (come_of p runs (Promise n b f.0) f.1) rest)

    asked_in_the_end : VotesAsked x
    asked_in_the_end = elim (gathered_or running (λ n h. h)) [
      | inl asked ↦ asked
      | inr gathered ↦
          inv.asks
          (laws.grow running (promisers (gathered_at x)) quorum
          (λ n member h. gathered n h))
    ]

    known_in_the_end : (m : ℕ) → Has m running → KnowsAt slot m x
    known_in_the_end m h =
        let a = asked_in_the_end in
        inv.learns m h a.0
        (laws.grow running (voters_at x m a.0) quorum
        (λ n member h'.
        come_of m h (Accepted n (vote_for b a.0))
        (come_of n h' (Accept (vote_for b a.0)) (a.1 n h') m h)))

  pub all_know : (events : List Event) (x : Network) → Inv x
      → AreUndisturbed q running slot before x events
      → ((number : ℕ) (d : Send) → before < number
      → datagram_at number (run q x events).sent ≡ Some d → d.message.slot ≡ slot
      → Has d.to running → Has (Deliver number Whole) events)
      → (m : ℕ) → Has m running → KnowsAt slot m (run q x events)
  all_know events x begins h all m h' =
      let end =
      all_done q running slot before KindOf DoneOf Inv (λ x inv. inv.kinds) arrives
      (λ x inv e f.
      goes_elsewhere x _ inv (event_elsewhere slot q running x inv.up e f)
      (happens_kept q laws x inv.kept e).kept)
      events x begins h all in
      known_in_the_end (run q x events) end.0 end.1 m h'
