-- The rounds of a slot's ballots are no more than the proposals for it.
use Rattle.std.proofs.Common.{ℕ, zero, suc, ◌≡◌, ◌≤◌, ◌+◌, max, Bool, true, false, cond, inl, inr}
use Rattle.std.proofs.Common.{refl, sym, ap, subst, ◌∙◌, List, [], ◌∷◌, length, take, Option, None}
use Rattle.std.proofs.Common.{Some, append-nil, arith}
use Rattle.std.specs.Prelude.{⊤, fold, filter_map, Result, Ok, Err, nat_lt}
use Rattle.std.specs.Bool.{nat_le}
use Rattle.fed_types.specs.declared.bag_id.BagId.{BagId}
use Rattle.fed_types.specs.declared.vote.Vote.{Vote}
use Rattle.fed_types.specs.Ballots.{BallotNumber}
use Rattle.fed_types.specs.Limits.{greatest_round}
use Rattle.fed_types.specs.Lists.{Has, here, is_in}
use Rattle.fed_types.specs.Quorums.{QuorumSystem, AreQuorums}
use Rattle.fed_types.specs.Slots.{SlotName, same_slot}
use Rattle.fed_types.specs.Laws.Lists.{has_none, has_cases, has_take, has_filter_map, fold_keeps}
use Rattle.fed_types.specs.Laws.Lists.{has_left, has_right}
use Rattle.fed_types.specs.Laws.Slots.{same_slot_decides}
use Rattle.bag_check.specs.declared.fault.BagFault.{BagFault}
use Rattle.records.specs.declared.entry.Entry.{Entry}
use Rattle.records.specs.declared.entry.Entry.TheVariants as entry
use Rattle.records.specs.declared.record.Record.{Record}
use Rattle.records.specs.Layout.{record_bytes}
use Rattle.records.specs.SlotStates.{ballot_in, promised_of, vote_of, used_of, deposit_of, known_of}
use Rattle.records.proofs.Bounds.{promised_among, used_among}
use Rattle.dgram.specs.declared.body.Body.{Body}
use Rattle.dgram.specs.declared.body.Body.TheVariants.{Prepare, Promise, Accept, Accepted, Refused}
use Rattle.dgram.specs.declared.body.Body.TheVariants.{Ask, Known}
use Rattle.dgram.specs.declared.message.Message.{Message}
use Rattle.dgram.specs.Encoding.{body_from}
use Rattle.dgram.specs.Heard.{bodies_of, refused_round, floor_of}
use Rattle.dgram.proofs.Heard.{has_message}
use Rattle.acceptor.specs.Decisions.{refuses, prepare_decision, accept_decision}
use Rattle.learner.specs.LearnedBags.{learned_from, learned_of_known}
use Rattle.proposer.specs.Proposals.{last_round, next_ballot, ready}
use Rattle.proposer.specs.VolatileStates.{VolatileState, new_volatile, hears, with_current}
use Rattle.schedule.specs.declared.fate.Fate.{Fate}
use Rattle.schedule.specs.declared.fate.Fate.TheVariants.{Whole, StopsIn, StopsAfter, FailsIn}
use Rattle.site.specs.declared.answer.Line.{Line}
use Rattle.site.specs.declared.fault.SiteFault.{SiteFault}
use Rattle.site.specs.declared.fault.SiteFault.TheVariants as faults
use Rattle.site.specs.Arrivals.{decided, proposing, learning, telling, is_member, on_arrival}
use Rattle.site.specs.Arrivals.{on_body}
use Rattle.site.specs.Calls.{Input, Deposits, Proposes, Recovers, Asks, Arrives, effect_of}
use Rattle.site.specs.Calls.{on_deposit, on_propose, on_recover, on_ask, registering, deposit_fault}
use Rattle.site.specs.Calls.{other_than, begins_next, begins_ballot_if, recovers_if}
use Rattle.site.specs.Effects.{Effect, Send, record_of, commits_and_sends, commits_and_says}
use Rattle.site.specs.Effects as effects
use Rattle.lines.specs.declared.notice.Notice.{Notice}
use Rattle.lines.specs.declared.notice.Notice.TheVariants.{GoesDown, ComesUp}
use Rattle.lines.specs.declared.notice.Notice.TheVariants as notices
use Rattle.lines.specs.Notices.{notice_of}
use Rattle.world_law.specs.Laws.{OnRecord, WasSent}
use Rattle.world_law.specs.Networks.{Mode, Up, Down, NeedsOpening, volatile_in, Network, new_site}
use Rattle.world_law.specs.Networks.{new_network, Happening, happening, outcome, nothing, reaches}
use Rattle.world_law.specs.Networks.{takes, replies, stops, starts, opened, arrives, datagram_at}
use Rattle.world_law.specs.Networks.{Event, happens, run}
use Rattle.world_law.specs.Networks as networks
use Rattle.world_law.proofs.Kept.{Kept}
use Rattle.world_law.proofs.Runs.{happens_kept, new_kept, run_kept}
use Rattle.world_law.proofs.Sends.{at_number}
use Rattle.world_law.proofs.Step.{moved, record_cases}
use Rattle.world_law.proofs.Deeds.{carries_each}
use Rattle.reach_law.proofs.Words.{of_slot, about, some_same}
use Rattle.reach_law.proofs.Discovering.{promise_if, prepare_cases}
use Rattle.reach_law.proofs.Voting.{accept_cases}
use Rattle.reach_law.specs.Running.{records_at, volatile_at, RoundsAreLeft, proposals_for}
use Rattle.reach_law.specs.Running.{proposals_in}

-- ---- what is of a round up to k

abbrev EntryWithin : ℕ → Entry → Type 0
EntryWithin k (entry.Round round) = round ≤ k
EntryWithin k (entry.Promise ballot) = ballot.round ≤ k
EntryWithin k (entry.Vote vote) = vote.ballot.round ≤ k
EntryWithin k _ = ⊤

abbrev BodyWithin : ℕ → Body → Type 0
BodyWithin k (Prepare ballot) = ballot.round ≤ k
BodyWithin k (Promise from ballot prior) = ballot.round ≤ k
BodyWithin k (Accept vote) = vote.ballot.round ≤ k
BodyWithin k (Refused from asked standing) = standing.round ≤ k
BodyWithin k _ = ⊤

entry_more : (k l : ℕ) → k ≤ l → (e : Entry) → EntryWithin k e → EntryWithin l e
entry_more k l m (entry.Round round) h = omega (arith, m, h)
entry_more k l m (entry.Promise ballot) h = omega (arith, m, h)
entry_more k l m (entry.Vote vote) h = omega (arith, m, h)
entry_more k l m _ h = tt

body_more : (k l : ℕ) → k ≤ l → (b : Body) → BodyWithin k b → BodyWithin l b
body_more k l m (Prepare ballot) h = omega (arith, m, h)
body_more k l m (Promise from ballot prior) h = omega (arith, m, h)
body_more k l m (Accept vote) h = omega (arith, m, h)
body_more k l m (Refused from asked standing) h = omega (arith, m, h)
body_more k l m _ h = tt

-- a greatest is no more than what bounds all
max_within : (xs : List ℕ) (k : ℕ) → ((n : ℕ) → Has n xs → n ≤ k) → fold max 0 xs ≤ k
max_within xs k =
    fold_keeps max (λ (xs : List ℕ) (m : ℕ). ((n : ℕ) → Has n xs → n ≤ k) → m ≤ k)
    (λ xs x m h all.
    let old : m ≤ k = h (λ n i. all n (has_left (x ∷ []) i)) in
    let new : x ≤ k = all x (has_right xs (here refl)) in
    omega (arith, old, new))
    0 xs (λ all. omega arith)

refused_within : (k : ℕ) (body : Body) (r : ℕ) → refused_round body ≡ Some r → BodyWithin k body
    → r ≤ k
refused_within k (Refused from asked standing) r is within = rw (← some_same is) within
refused_within k _ r is within = absurd (cc is)

floor_within : (k : ℕ) (bodies : List Body)
    → ((body : Body) → Has body bodies → BodyWithin k body) → floor_of bodies ≤ k
unfolding floor_of
floor_within k bodies all =
    max_within (filter_map refused_round bodies) k
    (λ r i.
    let f = has_filter_map refused_round r bodies i in
    refused_within k f.0 r f.2 (all f.0 f.1))

module _ (slot : SlotName) where
  record Within (k : ℕ) (w : Network) : Type 0 where
    records : (n : ℕ) (e : Entry) → OnRecord w n slot e → EntryWithin k e
    sent : (body : Body) → WasSent w slot body → BodyWithin k body

  within_more : (k l : ℕ) → k ≤ l → (w : Network) → Within k w → Within l w
  within_more k l m w h = record {
    records = λ n e on. entry_more k l m e (h.records n e on);
    sent = λ body s. body_more k l m body (h.sent body s);
  }

  -- what an effect records and sends
  record EffectWithin (k : ℕ) (e : Effect) : Type 0 where
    entry_is : (x : Entry) → e.commits ≡ Some (of_slot slot x) → EntryWithin k x
    bodies : (d : Send) → Has d e.sends → d.message.slot ≡ slot → BodyWithin k d.message.body

  no_sends : (k : ℕ) (d : Send) → Has d [] → d.message.slot ≡ slot → BodyWithin k d.message.body
  no_sends k d h = absurd (has_none h)

  nothing_within : (k : ℕ) (e : Effect) → e.commits ≡ None → e.sends ≡ [] → EffectWithin k e
  nothing_within k e none empty = record {
    entry_is = λ x f. absurd (cc (sym none ∙ f));
    bodies = λ d h. absurd (has_none (subst (λ (ds : List Send). Has d ds) empty h));
  }

  said_within : (k : ℕ) (s : SlotName) (o : Option Entry)
      → (s ≡ slot → (x : Entry) → o ≡ Some x → EntryWithin k x) → (x : Entry)
      → record_of s o ≡ Some (of_slot slot x) → EntryWithin k x
  said_within k s None h x e = absurd (cc e)
  said_within k s (Some y) h x e =
      let same = some_same e in
      h (ap (λ (r : Record). r.slot) same) x (ap (λ (r : Record). Some r.body) same)

  sends_within : (k : ℕ) (s : SlotName) (o : Option Entry) (body : Body) (sites : List ℕ)
      (v : VolatileState)
      → (s ≡ slot → (x : Entry) → o ≡ Some x → EntryWithin k x)
      → (s ≡ slot → BodyWithin k body) → EffectWithin k (commits_and_sends s o body sites v)
  sends_within k s o body sites v h b = record {
    entry_is = said_within k s o h;
    bodies = λ d i e.
        let c = carries_each s body sites d i in
        subst (BodyWithin k) (ap (λ (d : Send). d.message.body) c.is)
        (b (ap (λ (d : Send). d.message.slot) c.is ∙ e));
  }

  says_within : (k : ℕ) (s : SlotName) (o : Option Entry) (line : Line) (v : VolatileState)
      → (s ≡ slot → (x : Entry) → o ≡ Some x → EntryWithin k x)
      → EffectWithin k (commits_and_says s o line v)
  says_within k s o line v h = record { entry_is = said_within k s o h; bodies = no_sends k }

  -- ---- what a site does

  module _ (k l : ℕ) (more : k ≤ l) (w : Network) (h : Within k w) (n : ℕ) where
    standing_within : (s : SlotName) → s ≡ slot → (p : BallotNumber)
        → promised_of s (records_at w n) ≡ Some p → p.round ≤ l
    standing_within s same p e =
        let f = promised_among s (records_at w n) p e in
        go f.0 f.2
        (entry_more k l more f.0
        (h.records n f.0 (rw (← same) f.1)))
      where
        go : (x : Entry) → ballot_in x ≡ Some p → EntryWithin l x → p.round ≤ l
        go (entry.Promise ballot) is within = rw (← some_same is) within
        go (entry.Vote vote) is within = rw (← some_same is) within
        go _ is within = absurd (cc is)

    heard_within : (s : SlotName) (body : Body) → WasSent w s body → s ≡ slot → BodyWithin l body
    heard_within s body sent same = body_more k l more body (h.sent body (rw (← same) sent))

    prepare_within : (s : SlotName) (asker : ℕ) (b : BallotNumber) (v : VolatileState)
        → (q : QuorumSystem) → (s ≡ slot → b.round ≤ l)
        → EffectWithin l (decided q n s asker (prepare_decision s (records_at w n) b) v)
    prepare_within s asker b v q low = elim (prepare_cases s (records_at w n) b) [
      | inl above ↦
          rw (promise_if s (records_at w n) b above)
          (sends_within l s (Some (entry.Promise b)) (Promise n b (vote_of s (records_at w n)))
          (asker ∷ []) v (λ f x e. subst (EntryWithin l) (some_same e) (low f)) low)
      | inr stands ↦
          rw stands.2
          (sends_within l s None (Refused n b stands.0) (asker ∷ []) v (λ f x e. absurd (cc e))
          (λ f. standing_within s f stands.0 stands.1))
    ]

    accept_within : (s : SlotName) (asker : ℕ) (vote : Vote) (v : VolatileState)
        → (q : QuorumSystem) → (s ≡ slot → vote.ballot.round ≤ l)
        → EffectWithin l (decided q n s asker (accept_decision s (records_at w n) vote) v)
    accept_within s asker vote v q low = elim (accept_cases s (records_at w n) vote) [
      | inl (inl again) ↦
          rw again
          (sends_within l s None (Accepted n vote) q.members v (λ f x e. absurd (cc e)) (λ f. tt))
      | inl (inr new) ↦
          rw new
          (sends_within l s (Some (entry.Vote vote)) (Accepted n vote) q.members v
          (λ f x e. subst (EntryWithin l) (some_same e) (low f)) (λ f. tt))
      | inr stands ↦
          rw stands.2
          (sends_within l s None (Refused n vote.ballot stands.0) (asker ∷ []) v
          (λ f x e. absurd (cc e)) (λ f. standing_within s f stands.0 stands.1))
    ]

    proposing_within : (q : QuorumSystem) (s : SlotName) (b : BallotNumber) (o : Option BagId)
        (v : VolatileState)
        → (s ≡ slot → b.round ≤ l) → EffectWithin l (proposing q s b o v)
    proposing_within q s b None v low = nothing_within l _ refl refl
    proposing_within q s b (Some bag) v low =
        sends_within l s None (Accept (record { ballot = b; bag = bag })) q.members v
        (λ f x e. absurd (cc e)) low

    learning_within : (s : SlotName) (o : Option BagId) (v : VolatileState)
        → EffectWithin l (learning s o v)
    learning_within s None v = nothing_within l _ refl refl
    learning_within s (Some bag) v =
        says_within l s (Some (entry.Known bag)) _ v
        (λ f x e. subst (EntryWithin l) (some_same e) tt)

    telling_within : (s : SlotName) (asker : ℕ) (o : Option BagId) (v : VolatileState)
        → EffectWithin l (telling n s asker o v)
    telling_within s asker None v = nothing_within l _ refl refl
    telling_within s asker (Some bag) v =
        sends_within l s None (Known n bag) (asker ∷ []) v (λ f x e. absurd (cc e)) (λ f. tt)

    body_within : (q : QuorumSystem) (old now : VolatileState) (s : SlotName) (body : Body)
        → WasSent w s body → EffectWithin l (on_body q n (records_at w n) old now s body)
    unfolding on_body
    body_within q old now s (Prepare b) sent =
        prepare_within s b.site b now q (heard_within s (Prepare b) sent)
    body_within q old now s (Accept vote) sent =
        accept_within s vote.ballot.site vote now q (heard_within s (Accept vote) sent)
    body_within q old now s (Promise from b prior) sent =
        proposing_within q s b
        (ready q (deposit_of s (records_at w n)) s (old.current s) old.heard b
        (record { site = from; prior = prior })) now
        (heard_within s (Promise from b prior) sent)
    body_within q old now s (Accepted from vote) sent =
        learning_within s (learned_from q s (records_at w n) old.heard from vote) now
    body_within q old now s (Known from bag) sent =
        learning_within s (learned_of_known s (records_at w n) bag) now
    body_within q old now s (Ask from) sent =
        telling_within s from (known_of s (records_at w n)) now
    body_within q old now s _ sent = nothing_within l _ refl refl

    arrival_within : (q : QuorumSystem) (v : VolatileState) (o : Option Message)
        → ((m : Message) → o ≡ Some m → WasSent w m.slot m.body)
        → EffectWithin l (on_arrival q n (records_at w n) v o)
    unfolding on_arrival
    arrival_within q v None sent = nothing_within l _ refl refl
    arrival_within q v (Some m) sent = go (is_member q (body_from m.body))
      where
        go : (t : Bool) → EffectWithin l
            (cond t (on_body q n (records_at w n) v (hears v m) m.slot m.body)
            (on_arrival q n (records_at w n) v None))
        go true = body_within q v (hears v m) m.slot m.body (sent m refl)
        go false = nothing_within l _ refl refl

    deposit_within : (v : VolatileState) (s : SlotName) (checked : Result BagId BagFault)
        → EffectWithin l (on_deposit (records_at w n) v s checked)
    unfolding on_deposit
    deposit_within v s (Err fault) = nothing_within l _ refl refl
    deposit_within v s (Ok bag) =
        go
        (deposit_fault (other_than bag (deposit_of s (records_at w n)))
        (other_than bag (known_of s (records_at w n))))
        (deposit_of s (records_at w n))
      where
        go : (o : Option SiteFault) (own : Option BagId)
            → EffectWithin l (registering s own bag o v)
        go (Some fault) own = nothing_within l _ refl refl
        go None None =
            says_within l s (Some (entry.Deposit bag)) _ v
            (λ f x e. subst (EntryWithin l) (some_same e) tt)
        go None (Some own) = says_within l s None _ v (λ f x e. absurd (cc e))

    -- the last round, of those that were used or stood in the way
    last_within : (v : VolatileState) → ((m : Message) → Has m v.heard → WasSent w m.slot m.body)
        → last_round slot (records_at w n) v.heard ≤ k
    last_within v heard =
        let u : used_of slot (records_at w n) ≤ k = used in
        let f : floor_of (bodies_of slot v.heard) ≤ k = floor in
        omega (arith, u, f)
      where
        used_cases : (m : ℕ) → used_of slot (records_at w n) ≡ m → used_of slot (records_at w n) ≤ k
        used_cases zero e = omega (arith, e)
        used_cases (suc m) e =
            h.records n (entry.Round (used_of slot (records_at w n)))
            (used_among slot (records_at w n) (λ z. cc (sym z ∙ e)))

        used : used_of slot (records_at w n) ≤ k
        used = used_cases (used_of slot (records_at w n)) refl

        floor : floor_of (bodies_of slot v.heard) ≤ k
        floor =
            floor_within k (bodies_of slot v.heard)
            (λ body i. h.sent body (heard (about slot body) (has_message slot v.heard body i)))

    -- a ballot begins, of the next round
    module _ (q : QuorumSystem) (v : VolatileState) (s : SlotName)
        (heard : (m : Message) → Has m v.heard → WasSent w m.slot m.body)
        (one : s ≡ slot → 1 + k ≤ l) where
      next_within : EffectWithin l (begins_next q s (next_ballot n s (records_at w n) v.heard) v)
      unfolding next_ballot
      next_within =
          go (nat_lt (last_round s (records_at w n) v.heard) greatest_round)
        where
          low : s ≡ slot → 1 + last_round s (records_at w n) v.heard ≤ l
          low same =
              let last : last_round s (records_at w n) v.heard ≤ k =
              rw same (last_within v heard) in
              omega (arith, last, one same)

          b : BallotNumber
          b = record { round = 1 + last_round s (records_at w n) v.heard; site = n }

          go : (t : Bool) → EffectWithin l (begins_next q s (cond t (Some b) None) v)
          go false = nothing_within l _ refl refl
          go true =
              sends_within l s (Some (entry.Round b.round)) (Prepare b) q.members
              (with_current v s b) (λ f x e. subst (EntryWithin l) (some_same e) (low f)) low

      propose_within : EffectWithin l (on_propose q n (records_at w n) v s)
      unfolding on_propose
      propose_within =
          go (known_of s (records_at w n)) (deposit_of s (records_at w n))
        where
          go : (known own : Option BagId) → EffectWithin l
              (begins_ballot_if q s known own (next_ballot n s (records_at w n) v.heard) v)
          go None (Some own) = next_within
          go _ _ = nothing_within l _ refl refl

      recover_within : EffectWithin l (on_recover q n (records_at w n) v s)
      unfolding on_recover
      recover_within = go (known_of s (records_at w n)) _
        where
          go : (known : Option BagId) (has : Bool) → EffectWithin l
              (recovers_if q s known has (next_ballot n s (records_at w n) v.heard) v)
          go None true = next_within
          go _ _ = nothing_within l _ refl refl

  -- ---- what happens

  abbrev Entries : ℕ → Option Record → Type 0
  Entries k o = (x : Entry) → o ≡ Some (of_slot slot x) → EntryWithin k x

  abbrev Bodies : ℕ → List Send → Type 0
  Bodies k sends = (d : Send) → Has d sends → d.message.slot ≡ slot → BodyWithin k d.message.body

  no_entry : (k : ℕ) → Entries k None
  no_entry k x e = absurd (cc e)

  module _ (q : QuorumSystem) (k : ℕ) (w : Network) (h : Within k w) where
    moved_within : (n : ℕ) (o : Option Record) (mode : Mode) (sends : List Send)
        (notice : Option Notice)
        → Entries k o → Bodies k sends → Within k (moved w n o mode sends notice).network
    moved_within n o mode sends notice entries bodies = record {
      records = λ m e on. elim (record_cases q w n o mode sends notice m (of_slot slot e) on) [
        | inl old ↦ h.records m e old
        | inr new ↦ entries e new.1
      ];
      sent = λ body s. elim (has_cases w.sent sends s.is_sent) [
        | inl old ↦ h.sent body (record { to = s.to; is_sent = old })
        | inr new ↦ bodies (record { to = s.to; message = about slot body }) new refl
      ];
    }

    module _ (n : ℕ) where
      left_within : (t : Bool) (r : Record) (mode : Mode) (notice : Option Notice)
          → Entries k (Some r) → Within k (moved w n (cond t (Some r) None) mode [] notice).network
      left_within true r mode notice entries =
          moved_within n (Some r) mode [] notice entries (no_sends k)
      left_within false r mode notice entries =
          moved_within n None mode [] notice (no_entry k) (no_sends k)

      outcome_within : (after : Mode) (input : Input) (e : Effect) → EffectWithin k e
          → (o : Option Record) → e.commits ≡ o → (fate : Fate)
          → Within k (happening w n (outcome n (w.sites n) after input e o fate)).network
      unfolding outcome
      outcome_within after input e f o is Whole =
          moved_within n e.commits after e.sends (notice_of n input e.says) f.entry_is f.bodies
      outcome_within after input e f None is (StopsIn device j) =
          moved_within n None Down [] (Some (GoesDown n)) (no_entry k) (no_sends k)
      outcome_within after input e f (Some r) is (StopsIn device j) =
          left_within (nat_le (length (record_bytes r)) j) r Down (Some (GoesDown n))
          (λ x g. f.entry_is x (is ∙ g))
      outcome_within after input e f o is (StopsAfter j) =
          moved_within n o Down (take j e.sends) (Some (GoesDown n))
          (λ x g. f.entry_is x (is ∙ g)) (λ d i. f.bodies d (has_take j e.sends i))
      outcome_within after input e f None is (FailsIn device j) =
          moved_within n e.commits after e.sends (notice_of n input e.says) f.entry_is f.bodies
      outcome_within after input e f (Some r) is (FailsIn device j) =
          left_within (nat_le (length (record_bytes r)) j) r NeedsOpening
          (Some (notices.Refused n faults.Device)) (λ x g. f.entry_is x (is ∙ g))

      reaches_within : (mode : Mode) (input : Input) (fate : Fate)
          → EffectWithin k (effect_of q n (records_at w n) (volatile_in mode) input)
          → Within k (reaches q w n mode input fate).network
      reaches_within (Up v) input fate f = outcome_within _ _ _ f _ refl fate
      reaches_within NeedsOpening input fate f =
          outcome_within NeedsOpening input (effects.refuses faults.NeedsOpen new_volatile)
          (nothing_within k _ refl refl) None refl fate
      reaches_within Down input fate f = h

      member_within : (x : Happening) → Within k x.network → (t : Bool)
          → Within k (cond t x (nothing w)).network
      member_within x f true = f
      member_within x f false = h

      takes_within : (input : Input) (fate : Fate)
          → EffectWithin k (effect_of q n (records_at w n) (volatile_at w n) input)
          → Within k (takes q w n input fate).network
      takes_within input fate f =
          member_within _ (reaches_within (w.sites n).mode input fate f) (is_in q.members n)

      stops_within : (mode : Mode) → Within k (stops w n mode).network
      stops_within (Up v) =
          moved_within n None Down [] (Some (GoesDown n)) (no_entry k) (no_sends k)
      stops_within NeedsOpening =
          moved_within n None Down [] (Some (GoesDown n)) (no_entry k) (no_sends k)
      stops_within Down = h

      opened_within : Within k (happening w n (opened n (w.sites n))).network
      opened_within =
          rw (← append-nil (w.sites n).records) (moved_within n None (Up new_volatile) []
          (Some (ComesUp n (length (w.sites n).records))) (no_entry k) (no_sends k))

      starts_within : (mode : Mode) → Within k (starts w n mode).network
      starts_within (Up v) = h
      starts_within _ = opened_within

      replies_within : (s : SlotName) (mode : Mode) → Within k (replies w n mode s).network
      replies_within s (Up v) = h
      replies_within s _ = h

  module _ (q : QuorumSystem) (k : ℕ) (w : Network) (h : Within k w) (inv : Kept q w) where
    low : Within (0 + k) w
    low = within_more k (0 + k) (omega arith) w h

    -- a call that may begin a ballot, and is of the next round then
    begins_within : (s : SlotName) (n : ℕ) (input : Input) (fate : Fate)
        → ((l : ℕ) → k ≤ l → (s ≡ slot → 1 + k ≤ l)
        → EffectWithin l (effect_of q n (records_at w n) (volatile_at w n) input))
        → Within (cond (same_slot s slot) 1 0 + k) (takes q w n input fate).network
    begins_within s n input fate effect = go (same_slot s slot) refl
      where
        go : (t : Bool) → same_slot s slot ≡ t
            → Within (cond t 1 0 + k) (takes q w n input fate).network
        go true e =
            takes_within q (1 + k) w (within_more k (1 + k) (omega arith) w h) n input fate
            (effect (1 + k) (omega arith) (λ f. omega arith))
        go false e =
            takes_within q (0 + k) w low n input fate
            (effect (0 + k) (omega arith)
            (λ f. absurd (cc (sym e ∙ (same_slot_decides s slot).1 f))))

    step_within : (e : Event) → Within (proposals_in slot e + k) (happens q w e).network
    unfolding happens on_ask
    step_within (networks.Deposit n s checked fate) =
        takes_within q (0 + k) w low n (Deposits s checked) fate
        (deposit_within k (0 + k) (omega arith) w h n (volatile_at w n) s checked)
    step_within (networks.Propose n s fate) =
        begins_within s n (Proposes s) fate
        (λ l m. propose_within k l m w h n q (volatile_at w n) s (inv.volatiles n).heard)
    step_within (networks.Recover n s fate) =
        begins_within s n (Recovers s) fate
        (λ l m. recover_within k l m w h n q (volatile_at w n) s (inv.volatiles n).heard)
    step_within (networks.Ask n m s fate) =
        takes_within q (0 + k) w low n (Asks s m) fate
        (sends_within (0 + k) s None (Ask n) (m ∷ []) (volatile_at w n)
        (λ f x e. absurd (cc e)) (λ f. tt))
    step_within (networks.Query n s) =
        member_within q (0 + k) w low n _
        (replies_within q (0 + k) w low n s (w.sites n).mode) (is_in q.members n)
    step_within (networks.Deliver number fate) = go (datagram_at number w.sent) refl
      where
        go : (o : Option Send) → datagram_at number w.sent ≡ o
            → Within (0 + k) (arrives q w o fate).network
        go None e = low
        go (Some d) e =
            takes_within q (0 + k) w low d.to (Arrives (Some d.message)) fate
            (arrival_within k (0 + k) (omega arith) w h d.to q (volatile_at w d.to)
            (Some d.message)
            (λ m f.
            rw (← some_same f) (record { to = d.to; is_sent = at_number number w.sent d e })))
    step_within (networks.Raw n) =
        takes_within q (0 + k) w low n (Arrives None) Whole
        (arrival_within k (0 + k) (omega arith) w h n q (volatile_at w n) None
        (λ m f. absurd (cc f)))
    step_within (networks.Stop n) =
        member_within q (0 + k) w low n _
        (stops_within q (0 + k) w low n (w.sites n).mode) (is_in q.members n)
    step_within (networks.Start n) =
        member_within q (0 + k) w low n _
        (starts_within q (0 + k) w low n (w.sites n).mode) (is_in q.members n)

  run_within : (q : QuorumSystem) → AreQuorums q → (events : List Event) (k : ℕ) (w : Network)
      → Within k w → Kept q w → Within (proposals_for slot events + k) (run q w events)
  unfolding run proposals_for
  run_within q laws [] k w h inv = within_more k (0 + k) (omega arith) w h
  run_within q laws (e ∷ events) k w h inv =
      within_more (proposals_for slot events + (proposals_in slot e + k))
      (proposals_in slot e + proposals_for slot events + k) (omega arith)
      (run q (happens q w e).network events)
      (run_within q laws events (proposals_in slot e + k) (happens q w e).network
      (step_within q k w h inv e) (happens_kept q laws w inv e).kept)

  new_within : Within 0 new_network
  unfolding new_network new_site
  new_within = record {
    records = λ n e on. absurd (has_none on);
    sent = λ body s. absurd (has_none s.is_sent);
  }

-- ---- rounds are left

pub rounds_are_left : (q : QuorumSystem) (events : List Event) (running : List ℕ)
    (slot : SlotName) (site : ℕ) → AreQuorums q → proposals_for slot events + 2 ≤ greatest_round
    → RoundsAreLeft (run q new_network events) running slot site
rounds_are_left q events running slot site laws few =
    let within = run_within slot q laws events 0 new_network (new_within slot) (new_kept q) in
    let kept = run_kept q laws events in
    let k = proposals_for slot events + 0 in
    let w = run q new_network events in
    record {
      own =
          let last : last_round slot (records_at w site) (volatile_at w site).heard ≤ k =
          last_within slot k k (omega arith) w within site (volatile_at w site)
          (kept.volatiles site).heard in
          omega (arith, last, few);
      promised = λ n b h e.
          let standing : b.round ≤ k =
          standing_within slot k k (omega arith) w within n slot refl b e in
          omega (arith, standing, few);
    }
