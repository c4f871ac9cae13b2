-- What happens to other slots, and at members that don't run, leaves what is so of a slot.
use Rattle.std.proofs.Common.{ℕ, ◌≡◌, ◌≤◌, Bool, true, false, cond, inl, inr, refl, sym, ap, subst}
use Rattle.std.proofs.Common.{◌∙◌, List, [], ◌∷◌, ◌++◌, length, Option, None, Some, append-nil}
use Rattle.std.proofs.Common.{eq-eqb}
use Rattle.std.specs.Bool.{◌==◌}
use Rattle.std.specs.Prelude.{⊤, Result, Ok, Err}
use Rattle.std.specs.Option.{option_to_list}
use Rattle.std.proofs.lemmas.Bool.{cases_eq, ne_eqb, false≢true, false_from_ne_true}
use Rattle.fed_types.specs.declared.bag_id.BagId.{BagId}
use Rattle.fed_types.specs.Ballots.{BallotNumber}
use Rattle.fed_types.specs.Lists.{Has, is_in}
use Rattle.fed_types.specs.Quorums.{QuorumSystem}
use Rattle.fed_types.specs.Slots.{SlotName, same_slot}
use Rattle.fed_types.specs.Laws.Lists.{is_in_decides, has_none, has_take}
use Rattle.fed_types.specs.Laws.Slots.{same_slot_decides}
use Rattle.bag_check.specs.declared.fault.BagFault.{BagFault}
use Rattle.records.specs.declared.entry.Entry.{Entry}
use Rattle.records.specs.declared.entry.Entry.TheVariants as entry
use Rattle.records.specs.declared.record.Record.{Record}
use Rattle.records.specs.SlotStates.{said_in, ballot_in, round_in, deposit_in, known_in}
use Rattle.records.specs.SlotStates.{promised_of, used_of, deposit_of, known_of}
use Rattle.records.proofs.SlotStates.{deposit-push, known-push}
use Rattle.dgram.specs.declared.body.Body.{Body}
use Rattle.dgram.specs.declared.body.Body.TheVariants.{Prepare, Promise, Accept, Accepted, Refused}
use Rattle.dgram.specs.declared.body.Body.TheVariants.{Ask, Known, Deposit, Query, Recover}
use Rattle.dgram.specs.declared.message.Message.{Message}
use Rattle.dgram.specs.Encoding.{body_from}
use Rattle.dgram.specs.Heard.{body_in, bodies_of}
use Rattle.acceptor.specs.Decisions.{prepare_decision, accept_decision}
use Rattle.learner.specs.LearnedBags.{learned_from, learned_of_known}
use Rattle.proposer.specs.Proposals.{Current, gathered, ready, next_ballot}
use Rattle.proposer.proofs.Gathered.{bodies-push, gathered-push}
use Rattle.proposer.specs.VolatileStates.{VolatileState, new_volatile, hears, with_current}
use Rattle.schedule.specs.declared.fate.Fate.{Fate}
use Rattle.schedule.specs.declared.fate.Fate.TheVariants.{Whole, StopsIn, StopsAfter, FailsIn}
use Rattle.site.specs.declared.answer.Line.{Line}
use Rattle.site.specs.declared.answer.Line.TheVariants as site_lines
use Rattle.site.specs.declared.fault.SiteFault.{SiteFault}
use Rattle.site.specs.declared.fault.SiteFault.TheVariants as faults
use Rattle.site.specs.Arrivals.{answer_body, addressees, proposing, learning, telling, is_member}
use Rattle.site.specs.Arrivals.{on_arrival, on_body}
use Rattle.site.specs.Calls.{Input, Deposits, Proposes, Recovers, Asks, Arrives, effect_of}
use Rattle.site.specs.Calls.{on_deposit, on_propose, on_recover, on_ask, registering, deposit_fault}
use Rattle.site.specs.Calls.{other_than, deposit_entry, begins_next, begins_ballot_if, recovers_if}
use Rattle.site.specs.Effects.{Effect, Send, record_of, commits_and_sends, commits_and_says}
use Rattle.site.specs.Effects as effects
use Rattle.world_law.specs.Networks.{Mode, Up, Down, NeedsOpening, volatile_in, SiteState, Network}
use Rattle.world_law.specs.Networks.{outcome, nothing, reaches, takes, replies, stops, starts}
use Rattle.world_law.specs.Networks.{Event, happens}
use Rattle.world_law.specs.Networks as networks
use Rattle.world_law.proofs.Deeds.{carries_each}
use Rattle.reach_law.specs.Undisturbed.{IsElsewhere}
use Rattle.reach_law.proofs.Words.{Silent, promised_silent, used_silent, longer, some_same}
use Rattle.reach_law.proofs.Leads.{IsUp}
use Rattle.reach_law.specs.Running.{records_at, volatile_at}

module _ (slot : SlotName) where
  -- another slot
  abbrev pub Other : SlotName → Type 0
  Other s = s ≡ slot → ⊥

  other_test : (s : SlotName) → Other s → same_slot s slot ≡ false
  other_test s other =
      false_from_ne_true (same_slot s slot) (λ e. other ((same_slot_decides s slot).0 e))

  -- ---- records

  pub record SameWords (old new : List Record) : Type 0 where
    pub promised : promised_of slot new ≡ promised_of slot old
    pub used : used_of slot new ≡ used_of slot old
    pub deposit : deposit_of slot new ≡ deposit_of slot old
    pub known : known_of slot new ≡ known_of slot old

  words_same : (rs : List Record) → SameWords rs rs
  words_same rs = record { promised = refl; used = refl; deposit = refl; known = refl }

  -- a record, if there is one, of another slot
  abbrev OtherRecord : Option Record → Type 0
  OtherRecord o = (r : Record) → o ≡ Some r → Other r.slot

  says_nothing : {X : Type 0} (kind : Entry → Option X) (r : Record) → Other r.slot
      → said_in kind slot r ≡ None
  says_nothing kind r other = rw (other_test r.slot other) refl

  other_silent : {X : Type 0} (kind : Entry → Option X) (o : Option Record) → OtherRecord o
      → Silent kind slot o
  other_silent kind None other = tt
  other_silent kind (Some r) other = says_nothing kind r (other r refl)

  words_more : (rs : List Record) (o : Option Record) → OtherRecord o
      → SameWords rs (rs ++ option_to_list o)
  words_more rs o other = record {
    promised = promised_silent slot rs o (other_silent ballot_in o other);
    used = used_silent slot rs o (other_silent round_in o other);
    deposit = deposit o other;
    known = known o other;
  }
    where
      deposit : (o : Option Record) → OtherRecord o
          → deposit_of slot (rs ++ option_to_list o) ≡ deposit_of slot rs
      deposit None other = ap (deposit_of slot) (append-nil rs)
      deposit (Some r) other =
          rw (deposit-push slot rs r, says_nothing deposit_in r (other r refl)) refl

      known : (o : Option Record) → OtherRecord o
          → known_of slot (rs ++ option_to_list o) ≡ known_of slot rs
      known None other = ap (known_of slot) (append-nil rs)
      known (Some r) other = rw (known-push slot rs r, says_nothing known_in r (other r refl)) refl

  -- ---- the volatile state

  pub record SameFor (old new : VolatileState) : Type 0 where
    pub bodies : bodies_of slot new.heard ≡ bodies_of slot old.heard
    pub within : (k : ℕ) → k ≤ length old.heard → k ≤ length new.heard
    pub promises : (c : Current) → c.heard_before ≤ length old.heard
        → gathered slot c new.heard ≡ gathered slot c old.heard
    pub current : new.current slot ≡ old.current slot

  same_for : (v : VolatileState) → SameFor v v
  same_for v = record {
    bodies = refl;
    within = λ k l. l;
    promises = λ c l. refl;
    current = refl;
  }

  hears_other : (v : VolatileState) (m : Message) → Other m.slot → SameFor v (hears v m)
  hears_other v m other = record {
    bodies = rw (bodies-push slot v.heard m, none) (append-nil (bodies_of slot v.heard));
    within = λ k l. longer v.heard m k l;
    promises = λ c l.
        rw (gathered-push slot c v.heard m l, none) (append-nil (gathered slot c v.heard));
    current = refl;
  }
    where
      none : body_in slot m ≡ None
      none = rw (other_test m.slot other) refl

  begins_other : (v : VolatileState) (s : SlotName) (b : BallotNumber) → Other s
      → SameFor v (with_current v s b)
  begins_other v s b other = record {
    bodies = refl;
    within = λ k l. l;
    promises = λ c l. refl;
    current = rw (other_test s other) refl;
  }

  -- ---- effects

  pub record OtherEffect (v : VolatileState) (e : Effect) : Type 0 where
    pub commits : OtherRecord e.commits
    pub sends : (d : Send) → Has d e.sends → Other d.message.slot
    pub volatile : SameFor v e.volatile

  nothing_other : (v : VolatileState) (e : Effect) → e.commits ≡ None → e.sends ≡ []
      → SameFor v e.volatile → OtherEffect v e
  nothing_other v e none empty same = record {
    commits = λ r f. absurd (cc (sym none ∙ f));
    sends = λ d h. absurd (has_none (subst (λ (ds : List Send). Has d ds) empty h));
    volatile = same;
  }

  record_other : (s : SlotName) (o : Option Entry) → Other s → OtherRecord (record_of s o)
  record_other s None other r e = absurd (cc e)
  record_other s (Some x) other r e =
      subst Other (ap (λ (r : Record). r.slot) (some_same e)) other

  sends_other : (v now : VolatileState) (s : SlotName) (o : Option Entry) (body : Body)
      (sites : List ℕ) → Other s → SameFor v now
      → OtherEffect v (commits_and_sends s o body sites now)
  sends_other v now s o body sites other same = record {
    commits = record_other s o other;
    sends = λ d h.
        let c = carries_each s body sites d h in
        subst Other (ap (λ (d : Send). d.message.slot) c.is) other;
    volatile = same;
  }

  says_other : (v now : VolatileState) (s : SlotName) (o : Option Entry) (line : Line)
      → Other s → SameFor v now → OtherEffect v (commits_and_says s o line now)
  says_other v now s o line other same = record {
    commits = record_other s o other;
    sends = λ d h. absurd (has_none h);
    volatile = same;
  }

  module _ (q : QuorumSystem) (n : ℕ) (rs : List Record) (v : VolatileState) where
    proposing_other : (now : VolatileState) (s : SlotName) (b : BallotNumber) (o : Option BagId)
        → Other s → SameFor v now → OtherEffect v (proposing q s b o now)
    proposing_other now s b None other same = nothing_other v _ refl refl same
    proposing_other now s b (Some bag) other same =
        sends_other v now s None (Accept (record { ballot = b; bag = bag })) q.members other same

    learning_other : (now : VolatileState) (s : SlotName) (o : Option BagId)
        → Other s → SameFor v now → OtherEffect v (learning s o now)
    learning_other now s None other same = nothing_other v _ refl refl same
    learning_other now s (Some bag) other same =
        says_other v now s (Some (entry.Known bag)) (site_lines.Known s bag) other same

    telling_other : (now : VolatileState) (s : SlotName) (asker : ℕ) (o : Option BagId)
        → Other s → SameFor v now → OtherEffect v (telling n s asker o now)
    telling_other now s asker None other same = nothing_other v _ refl refl same
    telling_other now s asker (Some bag) other same =
        sends_other v now s None (Known n bag) (asker ∷ []) other same

    body_other : (now : VolatileState) (s : SlotName) (body : Body) → Other s → SameFor v now
        → OtherEffect v (on_body q n rs v now s body)
    unfolding on_body
    body_other now s (Prepare b) other same =
        sends_other v now s (prepare_decision s rs b).entry
        (answer_body n (prepare_decision s rs b).answer)
        (addressees q b.site (prepare_decision s rs b).answer) other same
    body_other now s (Accept vote) other same =
        sends_other v now s (accept_decision s rs vote).entry
        (answer_body n (accept_decision s rs vote).answer)
        (addressees q vote.ballot.site (accept_decision s rs vote).answer) other same
    body_other now s (Promise from b prior) other same =
        proposing_other now s b
        (ready q (deposit_of s rs) s (v.current s) v.heard b
        (record { site = from; prior = prior })) other same
    body_other now s (Accepted from vote) other same =
        learning_other now s (learned_from q s rs v.heard from vote) other same
    body_other now s (Known from bag) other same =
        learning_other now s (learned_of_known s rs bag) other same
    body_other now s (Refused from asked standing) other same = nothing_other v _ refl refl same
    body_other now s (Ask from) other same = telling_other now s from (known_of s rs) other same
    body_other now s _ other same = nothing_other v _ refl refl (same_for v)

    -- an input about another slot, or about none
    abbrev pub OtherInput : Input → Type 0
    OtherInput (Deposits s checked) = Other s
    OtherInput (Proposes s) = Other s
    OtherInput (Recovers s) = Other s
    OtherInput (Asks s member) = Other s
    OtherInput (Arrives None) = ⊤
    OtherInput (Arrives (Some m)) = Other m.slot

    deposit_other : (s : SlotName) (checked : Result BagId BagFault) → Other s
        → OtherEffect v (on_deposit rs v s checked)
    unfolding on_deposit
    deposit_other s (Err fault) other = nothing_other v _ refl refl (same_for v)
    deposit_other s (Ok bag) other =
        go
        (deposit_fault (other_than bag (deposit_of s rs)) (other_than bag (known_of s rs)))
      where
        go : (o : Option SiteFault) → OtherEffect v (registering s (deposit_of s rs) bag o v)
        go (Some fault) = nothing_other v _ refl refl (same_for v)
        go None =
            says_other v v s (deposit_entry (deposit_of s rs) bag) (site_lines.Registered bag)
            other (same_for v)

    next_other : (s : SlotName) → Other s → (next : Option BallotNumber)
        → OtherEffect v (begins_next q s next v)
    next_other s other None = nothing_other v _ refl refl (same_for v)
    next_other s other (Some b) =
        sends_other v (with_current v s b) s (Some (entry.Round b.round)) (Prepare b)
        q.members other
        (begins_other v s b other)

    propose_other : (s : SlotName) → Other s → OtherEffect v (on_propose q n rs v s)
    unfolding on_propose
    propose_other s other =
        go (known_of s rs) (deposit_of s rs) (next_ballot n s rs v.heard)
      where
        go : (known own : Option BagId) (next : Option BallotNumber)
            → OtherEffect v (begins_ballot_if q s known own next v)
        go None (Some own) next = next_other s other next
        go _ _ next = nothing_other v _ refl refl (same_for v)

    recover_other : (s : SlotName) → Other s → OtherEffect v (on_recover q n rs v s)
    unfolding on_recover
    recover_other s other = go (known_of s rs) _ (next_ballot n s rs v.heard)
      where
        go : (known : Option BagId) (has : Bool) (next : Option BallotNumber)
            → OtherEffect v (recovers_if q s known has next v)
        go None true next = next_other s other next
        go _ _ next = nothing_other v _ refl refl (same_for v)

    input_other : (input : Input) → OtherInput input → OtherEffect v (effect_of q n rs v input)
    unfolding on_arrival on_ask
    input_other (Deposits s checked) other = deposit_other s checked other
    input_other (Proposes s) other = propose_other s other
    input_other (Recovers s) other = recover_other s other
    input_other (Asks s member) other =
        sends_other v v s None (Ask n) (member ∷ []) other (same_for v)
    input_other (Arrives None) other = nothing_other v _ refl refl (same_for v)
    input_other (Arrives (Some m)) other = go (is_member q (body_from m.body))
      where
        go : (t : Bool) → OtherEffect v
            (cond t (on_body q n rs v (hears v m) m.slot m.body) (on_arrival q n rs v None))
        go true = body_other (hears v m) m.slot m.body other (hears_other v m other)
        go false = nothing_other v _ refl refl (same_for v)

  -- ---- what happens

  module _ (q : QuorumSystem) (running : List ℕ) where
    pub record Elsewhere (x y : Network) : Type 0 where
      pub words : (n : ℕ) → Has n running → SameWords (records_at x n) (records_at y n)
      pub volatile : (n : ℕ) → Has n running → SameFor (volatile_at x n) (volatile_at y n)
      pub up : (n : ℕ) → Has n running → IsUp x n → IsUp y n
      pub more : List Send
      pub sent : y.sent ≡ x.sent ++ more
      pub others : (d : Send) → Has d more → Other d.message.slot

    nowhere : (x : Network) → Elsewhere x x
    nowhere x = record {
      words = λ n h. words_same (records_at x n);
      volatile = λ n h. same_for (volatile_at x n);
      up = λ n h up. up;
      more = [];
      sent = sym (append-nil x.sent);
      others = λ d h. absurd (has_none h);
    }

    became : Network → ℕ → SiteState → List Send → Network
    became x n site sends = record {
      sites = λ k. cond (k == n) site (x.sites k);
      sent = x.sent ++ sends;
    }

    -- at a member that doesn't run
    aside : (x : Network) (n : ℕ) (site : SiteState) (sends : List Send)
        → (Has n running → ⊥) → ((d : Send) → Has d sends → Other d.message.slot)
        → Elsewhere x (became x n site sends)
    unfolding became
    aside x n site sends not others = record {
      words = λ k h. rw (same k h, records_at) (words_same (records_at x k));
      volatile = λ k h. rw (same k h, volatile_at) (same_for (volatile_at x k));
      up = λ k h up. rw (same k h) up;
      more = sends;
      sent = refl;
      others = others;
    }
      where
        same : (k : ℕ) → Has k running → cond (k == n) site (x.sites k) ≡ x.sites k
        same k h = rw (ne_eqb k n (λ e. not (rw (← e) h))) refl

    -- at one that runs, which is up
    at_running : (x : Network) (n : ℕ) (e : Effect) → OtherEffect (volatile_at x n) e → Elsewhere x
        (became x n
        (record {
          records = records_at x n ++ option_to_list e.commits;
          mode = Up e.volatile;
        }) e.sends)
    unfolding became
    at_running x n e o = record {
      words = λ k h. elim (cases_eq k n) [
        | inl same ↦
            rw (eq-eqb k n same, records_at)
            (rw same (words_more (records_at x n) e.commits o.commits))
        | inr differ ↦ rw (ne_eqb k n differ, records_at) (words_same (records_at x k))
      ];
      volatile = λ k h. elim (cases_eq k n) [
        | inl same ↦ rw (eq-eqb k n same, volatile_at) (rw same o.volatile)
        | inr differ ↦ rw (ne_eqb k n differ, volatile_at) (same_for (volatile_at x k))
      ];
      up = λ k h up. elim (cases_eq k n) [
        | inl same ↦ rw (eq-eqb k n same, volatile_at) refl
        | inr differ ↦ rw (ne_eqb k n differ, volatile_at) up
      ];
      more = e.sends;
      sent = refl;
      others = o.sends;
    }

    -- what an outcome sends, the effect does
    outcome_sends : (n : ℕ) (s : SiteState) (after : Mode) (input : Input) (e : Effect)
        (commits : Option Record) (fate : Fate) (d : Send)
        → Has d (outcome n s after input e commits fate).sends → Has d e.sends
    unfolding outcome
    outcome_sends n s after input e commits Whole d h = h
    outcome_sends n s after input e None (StopsIn device k) d h = absurd (has_none h)
    outcome_sends n s after input e (Some r) (StopsIn device k) d h = absurd (has_none h)
    outcome_sends n s after input e commits (StopsAfter j) d h = has_take j e.sends h
    outcome_sends n s after input e None (FailsIn device k) d h = h
    outcome_sends n s after input e (Some r) (FailsIn device k) d h = absurd (has_none h)

    module _ (x : Network) (n : ℕ) (input : Input)
        (other : OtherInput q n (records_at x n) (volatile_at x n) input) where
      -- a member that runs
      whole : Has n running → IsUp x n → Elsewhere x (takes q x n input Whole).network
      unfolding outcome became
      whole h up = go (is_in q.members n)
        where
          reached : (mode : Mode) → mode ≡ Up (volatile_at x n)
              → Elsewhere x (reaches q x n mode input Whole).network
          reached mode is =
              rw is (at_running x n (effect_of q n (records_at x n) (volatile_at x n) input)
              (input_other q n (records_at x n) (volatile_at x n) input other))

          go : (t : Bool) → Elsewhere x
              (cond t (reaches q x n (x.sites n).mode input Whole) (nothing x)).network
          go true = reached (x.sites n).mode up
          go false = nowhere x

      -- and one that doesn't
      any_fate : (fate : Fate) → (Has n running → ⊥) → Elsewhere x (takes q x n input fate).network
      unfolding became
      any_fate fate not = go (is_in q.members n)
        where
          reached : (mode : Mode) → (x.sites n).mode ≡ mode
              → Elsewhere x (reaches q x n mode input fate).network
          reached (Up v) is =
              let e = effect_of q n (records_at x n) v input in
              let o : OtherEffect (volatile_at x n)
              (effect_of q n (records_at x n) (volatile_at x n) input) =
              input_other q n (records_at x n) (volatile_at x n) input other in
              let here : OtherEffect v e = rw (← ap volatile_in is) o in
              aside x n (outcome n (x.sites n) (Up e.volatile) input e e.commits fate).site
              (outcome n (x.sites n) (Up e.volatile) input e e.commits fate).sends not
              (λ d h.
              here.sends d
              (outcome_sends n (x.sites n) (Up e.volatile) input e e.commits fate d h))
          reached NeedsOpening is =
              let e = effects.refuses faults.NeedsOpen new_volatile in
              aside x n (outcome n (x.sites n) NeedsOpening input e None fate).site
              (outcome n (x.sites n) NeedsOpening input e None fate).sends not
              (λ d h.
              absurd (has_none
              (outcome_sends n (x.sites n) NeedsOpening input e None fate d h)))
          reached Down is = nowhere x

          go : (t : Bool) → Elsewhere x
              (cond t (reaches q x n (x.sites n).mode input fate) (nothing x)).network
          go true = reached (x.sites n).mode refl
          go false = nowhere x

      taken : (fate : Fate) → (Has n running → fate ≡ Whole) → (Has n running → IsUp x n)
          → Elsewhere x (takes q x n input fate).network
      taken fate is_whole up = go (is_in running n) refl
        where
          go : (t : Bool) → is_in running n ≡ t → Elsewhere x (takes q x n input fate).network
          go true e =
              let h = (is_in_decides running n).0 e in
              rw (is_whole h) (whole h (up h))
          go false e = any_fate fate (λ h. false≢true (sym e ∙ (is_in_decides running n).1 h))

    pub event_elsewhere : (x : Network) → ((n : ℕ) → Has n running → IsUp x n) → (e : Event)
        → IsElsewhere running slot x e → Elsewhere x (happens q x e).network
    unfolding happens became
    event_elsewhere x up (networks.Deposit n s checked fate) h =
        taken x n (Deposits s checked) h.0 fate h.1 (up n)
    event_elsewhere x up (networks.Propose n s fate) h = taken x n (Proposes s) h.0 fate h.1 (up n)
    event_elsewhere x up (networks.Recover n s fate) h = taken x n (Recovers s) h.0 fate h.1 (up n)
    event_elsewhere x up (networks.Ask n m s fate) h = taken x n (Asks s m) h.0 fate h.1 (up n)
    event_elsewhere x up (networks.Query n s) h = member (is_in q.members n)
      where
        reply : (mode : Mode) → Elsewhere x (replies x n mode s).network
        reply (Up v) = nowhere x
        reply _ = nowhere x

        member : (t : Bool)
            → Elsewhere x (cond t (replies x n (x.sites n).mode s) (nothing x)).network
        member true = reply (x.sites n).mode
        member false = nowhere x
    event_elsewhere x up (networks.Deliver number fate) h =
        rw h.1 (taken x h.0.to (Arrives (Some h.0.message)) h.2 fate h.3 (up h.0.to))
    event_elsewhere x up (networks.Raw n) h = taken x n (Arrives None) tt Whole (λ h. refl) (up n)
    event_elsewhere x up (networks.Stop n) h = member (is_in q.members n)
      where
        stopped : (mode : Mode) → Elsewhere x (stops x n mode).network
        stopped Down = nowhere x
        stopped _ =
            aside x n (record { records = records_at x n ++ []; mode = Down }) [] h
            (λ d i. absurd (has_none i))

        member : (t : Bool) → Elsewhere x (cond t (stops x n (x.sites n).mode) (nothing x)).network
        member true = stopped (x.sites n).mode
        member false = nowhere x
    event_elsewhere x up (networks.Start n) h = member (is_in q.members n)
      where
        started : (mode : Mode) → (Has n running → ⊥) → Elsewhere x (starts x n mode).network
        started (Up v) not = nowhere x
        started _ not =
            aside x n (record { records = records_at x n; mode = Up new_volatile }) [] not
            (λ d i. absurd (has_none i))

        member : (t : Bool) → Elsewhere x (cond t (starts x n (x.sites n).mode) (nothing x)).network
        member true = started (x.sites n).mode h
        member false = nowhere x
