-- What a site does with a message that was sent agrees with a network that is kept.
use Rattle.std.proofs.Common.{ℕ, ◌≡◌, true, false, inl, inr, refl, sym, ap}
use Rattle.std.proofs.Common.{subst, List, [], ◌∷◌, ◌++◌, Option, None, Some}
use Rattle.std.specs.Prelude.{Result, Ok}
use Rattle.std.proofs.lemmas.Bool.{cond_both}
use Rattle.fed_types.specs.declared.bag_id.BagId.{BagId}
use Rattle.fed_types.specs.declared.vote.Vote.{Vote}
use Rattle.fed_types.specs.Ballots.{BallotNumber, same_ballot}
use Rattle.fed_types.specs.Lists.{Has}
use Rattle.fed_types.specs.Quorums.{QuorumSystem, AreQuorums}
use Rattle.fed_types.specs.Slots.{SlotName}
use Rattle.fed_types.specs.Laws.Ballots.{same_ballot_decides}
use Rattle.fed_types.specs.Laws.Lists.{is_in_decides, has_cases, has_one, has_none}
use Rattle.records.specs.declared.entry.Entry.TheVariants as entry
use Rattle.records.specs.declared.record.Record.{Record}
use Rattle.records.specs.SlotStates.{deposit_of, known_of}
use Rattle.records.proofs.Bounds.{deposit_among, known_among}
use Rattle.dgram.specs.declared.body.Body.{Body}
use Rattle.dgram.specs.declared.body.Body.TheVariants.{Prepare, Promise, Accept, Accepted, Refused}
use Rattle.dgram.specs.declared.body.Body.TheVariants.{Ask, Known}
use Rattle.dgram.specs.declared.message.Message.{Message}
use Rattle.dgram.specs.Encoding.{body_from}
use Rattle.dgram.specs.Heard.{bodies_of, PromiseFrom, promisers, voters_for}
use Rattle.dgram.proofs.Heard.{has_message, has_accepted}
use Rattle.acceptor.specs.declared.decision.Response.{Response}
use Rattle.acceptor.specs.declared.decision.Response.TheVariants as answer
use Rattle.acceptor.specs.declared.decision.Decision.{Decision}
use Rattle.learner.specs.LearnedBags.{chosen_by}
use Rattle.proposer.specs.Proposals.{Current, gathered, highest_prior, bag_of, proposal, ready}
use Rattle.proposer.specs.Proposals.{completes}
use Rattle.proposer.specs.VolatileStates.{VolatileState, hears, promise_message}
use Rattle.site.specs.declared.answer.Line.{Line}
use Rattle.site.specs.declared.answer.Line.TheVariants as site_lines
use Rattle.site.specs.declared.fault.SiteFault.{SiteFault}
use Rattle.site.specs.Arrivals.{answer_body, addressees, decided, proposing, learning, telling}
use Rattle.site.specs.Arrivals.{on_body, is_member, on_arrival}
use Rattle.site.specs.Calls.{Input, Arrives}
use Rattle.site.specs.Effects.{Send, only_says, quiet}
use Rattle.world_law.specs.Laws.{WasSent, IsChosen, SatisfiesP2c}
use Rattle.lines.specs.declared.notice.Notice.TheVariants.{Learned}
use Rattle.lines.specs.Notices.{notice_of}
use Rattle.world_law.specs.Networks.{Network, volatile_in}
use Rattle.world_law.proofs.Heard.{gathered_heard, gathered_promise, highest_prior_is, prior_of}
use Rattle.world_law.proofs.Kept.{vote_for, Proposes, IsCurrent, Kept}
use Rattle.world_law.proofs.Conditions.{given_if, kept_if, and_not, unless_known_is}
use Rattle.world_law.proofs.Step.{Extends, Sound, IsNew, ReportsChosen, reports_nothing}
use Rattle.world_law.proofs.Step.{reports_plain}
use Rattle.world_law.proofs.Deeds.{MayDeposit, Deed, some_same, sent_extends, chosen_extends}
use Rattle.world_law.proofs.Deeds.{carries_each, only_sends, nothing_sent, keeps_one, hears_recalls}
use Rattle.world_law.proofs.Deeds.{same_recalls, NoAccept, not_new}
use Rattle.world_law.proofs.Decided.{DecisionSound, prepare_sound, accept_sound}

module _ (q : QuorumSystem) (laws : AreQuorums q) (w : Network) (inv : Kept q w) (n : ℕ) where
  abbrev records : List Record
  records = (w.sites n).records

  abbrev old : VolatileState
  old = volatile_in (w.sites n).mode

  -- what changes nothing of the volatile state, and proposes nothing
  pub still_deed : (input : Input) (commits : Option Record) (sends : List Send)
      (says : Result (Option Line) SiteFault) (slot : SlotName) (body : Body)
      → ReportsChosen q w (notice_of n input says)
      → Sound q w n (MayDeposit input) commits slot body sends → NoAccept body
      → Deed q w n input
      (record { commits = commits; sends = sends; says = says; volatile = old })
  still_deed input commits sends says slot body reports s other = record {
    slot = slot;
    body = body;
    sound = s;
    recalls =
        same_recalls q w n old (inv.volatiles n) commits slot body
        (λ k c bag f i. absurd (not_new body other i));
    reports = reports;
  }

  -- ---- with a member's message heard

  module _ (slot : SlotName) (body : Body) (sent : WasSent w slot body)
      (member : is_member q (body_from body) ≡ true) where
    abbrev m : Message
    m = record { slot = slot; body = body }

    abbrev now : VolatileState
    now = hears old m

    abbrev input : Input
    input = Arrives (Some m)

    now_sent : (e : Message) → Has e now.heard → WasSent w e.slot e.body
    now_sent e h = elim (has_cases old.heard (m ∷ []) h) [
      | inl before ↦ (inv.volatiles n).heard e before
      | inr new ↦ rw (← has_one new) sent
    ]

    now_members : (e : Message) → Has e now.heard → is_member q (body_from e.body) ≡ true
    now_members e h = elim (has_cases old.heard (m ∷ []) h) [
      | inl before ↦ (inv.volatiles n).members e before
      | inr new ↦ rw (← has_one new) member
    ]

    -- an effect whose new messages propose nothing
    plain_deed : (commits : Option Record) (sends : List Send)
        (says : Result (Option Line) SiteFault) (new : Body)
        → ReportsChosen q w (notice_of n input says)
        → Sound q w n (MayDeposit input) commits slot new sends → NoAccept new
        → Deed q w n input
        (record { commits = commits; sends = sends; says = says; volatile = now })
    plain_deed commits sends says new reports s other = record {
      slot = slot;
      body = new;
      sound = s;
      recalls =
          hears_recalls q w n old laws (inv.volatiles n) m sent member commits slot new
          (λ k c bag f i. absurd (not_new new other i));
      reports = reports;
    }

    quiet_deed : Deed q w n input (quiet now)
    quiet_deed =
        plain_deed None [] (Ok None) (Ask n) reports_nothing
        (nothing_sent q w n (MayDeposit input) slot) tt

    -- ---- the acceptor

    no_accept : (a : Response) → NoAccept (answer_body n a)
    no_accept (answer.Accepted vote) = tt
    no_accept a = tt

    decided_deed : (asker : ℕ) (d : Decision)
        → ((sites : List ℕ) → DecisionSound q w n (MayDeposit input) slot sites d)
        → Deed q w n input (decided q n slot asker d now)
    decided_deed asker d s =
        plain_deed _ _ (Ok None) _ reports_nothing (s (addressees q asker d.answer))
        (no_accept d.answer)

    -- ---- the learner

    learned_chosen : {bag : BagId} → IsChosen q w slot bag
        → ReportsChosen q w (Some (Learned n slot bag))
    learned_chosen {bag} c = record {
      chosen = λ l r e f.
          let said : Learned n slot bag ≡ l = cc in
          let same : record { slot = slot; bag = bag } ≡ r = cc (rw (← said) at f) in
          rw (← same) c;
    }

    learning_deed : (o : Option BagId) → ((bag : BagId) → o ≡ Some bag → IsChosen q w slot bag)
        → Deed q w n input (learning slot o now)
    learning_deed None chosen = quiet_deed
    learning_deed (Some bag) chosen =
        plain_deed _ [] (Ok (Some (site_lines.Known slot bag))) (Ask n)
        (learned_chosen (chosen bag refl))
        (keeps_one q w n _ slot (entry.Known bag) _ _
        (λ e h. absurd (has_none h)) refl
        (λ x g. chosen_extends g (chosen bag refl)) (λ x g. tt))
        tt

    telling_deed : (asker : ℕ) (o : Option BagId) → known_of slot records ≡ o
        → Deed q w n input (telling n slot asker o now)
    telling_deed asker None e = quiet_deed
    telling_deed asker (Some bag) e =
        plain_deed None _ (Ok None) (Known n bag) reports_nothing
        (only_sends q w n _ _ _ _ (carries_each slot (Known n bag) (asker ∷ [])) refl
        (λ x g. chosen_extends g
        (inv.records n slot (entry.Known bag) (known_among slot records bag e))))
        tt

    -- a quorum was heard to have cast this vote
    voters_chosen : (vote : Vote) (u : BagId) → chosen_by q slot now.heard vote ≡ Some u
        → IsChosen q w slot u
    unfolding chosen_by
    voters_chosen vote u e =
        let voters : List ℕ = voters_for vote (bodies_of slot now.heard) in
        let f = given_if (q.is_quorum voters) vote.bag u e in
        rw (← f.1) (record {
          ballot = vote.ballot;
          chosen = record {
            voters = voters;
            quorum = f.0;
            voted = λ j h.
                let s = now_sent _
                (has_message slot now.heard (Accepted j vote)
                (has_accepted vote (bodies_of slot now.heard) j h)) in
                inv.sent _ s.is_sent;
          };
        })

    -- ---- the proposer

    -- this promise makes the proposal of a bag ready
    record IsReady (b : BallotNumber) (p : PromiseFrom) (bag : BagId) : Type 0 where
      c : Current
      is_current : old.current slot ≡ Some c
      same : c.ballot ≡ b
      quorum : q.is_quorum (promisers (gathered slot c old.heard ++ p ∷ [])) ≡ true
      unready : q.is_quorum (promisers (gathered slot c old.heard)) ≡ false
      follows : bag_of (highest_prior (gathered slot c old.heard ++ p ∷ []))
          (deposit_of slot records) ≡ Some bag

    ready_is : (b : BallotNumber) (p : PromiseFrom) (bag : BagId) (o : Option Current)
        → old.current slot ≡ o
        → ready q (deposit_of slot records) slot o old.heard b p ≡ Some bag → IsReady b p bag
    unfolding proposal
    ready_is b p bag None e h = absurd (cc h)
    ready_is b p bag (Some c) e h =
        let ps : List PromiseFrom = gathered slot c old.heard in
        let f =
        kept_if (same_ballot c.ballot b)
        (proposal q (deposit_of slot records) ps p) bag h in
        let g =
        kept_if (completes q ps p)
        (bag_of (highest_prior (ps ++ p ∷ [])) (deposit_of slot records)) bag f.1 in
        let i =
        and_not (q.is_quorum (promisers (ps ++ p ∷ []))) (q.is_quorum (promisers ps)) g.0 in
        record {
          c = c;
          is_current = e;
          same = (same_ballot_decides c.ballot b).0 f.0;
          quorum = i.0;
          unready = i.1;
          follows = g.1;
        }

    follows_own : (o : Option Vote) (bag : BagId)
        → bag_of o (deposit_of slot records) ≡ Some bag → SatisfiesP2c w n slot o bag
    follows_own None bag e = deposit_among slot records bag e
    follows_own (Some u) bag e = cc

    follows_extends : (x : Network) (o : Option Vote) (bag : BagId) → Extends w x n None
        → SatisfiesP2c w n slot o bag → SatisfiesP2c x n slot o bag
    follows_extends x None bag g f = g.keeps n slot _ f
    follows_extends x (Some u) bag g f = f

    -- a promise of the current ballot makes the proposal of a bag ready
    module _ (c : Current) (k : ℕ) (prior : Option Vote) (bag : BagId)
        (is_body : body ≡ Promise k c.ballot prior) (is_current : old.current slot ≡ Some c) where
      abbrev p : PromiseFrom
      p = record { site = k; prior = prior }

      abbrev ps : List PromiseFrom
      ps = gathered slot c old.heard ++ p ∷ []

      cur : IsCurrent q w n slot old.heard c
      cur = (inv.volatiles n).current slot c is_current

      -- what counts is now gathered
      now_gathered : gathered slot c now.heard ≡ ps
      now_gathered = rw is_body (gathered_promise slot c old.heard k prior cur.within)

      promise_heard : (r : PromiseFrom) → Has r ps
          → Has (promise_message slot r.site c.ballot r.prior) now.heard
      promise_heard r h = gathered_heard slot c now.heard r (rw now_gathered h)

      proposed_deed : q.is_quorum (promisers ps) ≡ true
          → q.is_quorum (promisers (gathered slot c old.heard)) ≡ false
          → SatisfiesP2c w n slot (highest_prior ps) bag
          → Deed q w n input (proposing q slot c.ballot (Some bag) now)
      proposed_deed quorum unready follows = record {
        slot = slot;
        body = Accept vote;
        sound =
            only_sends q w n _ _ _ _ (carries_each slot (Accept vote) q.members) (ap Some cur.own)
            (λ x g. record { says = proposes x g; own = cur.own; unsent = unsent });
        recalls =
            hears_recalls q w n old laws (inv.volatiles n) m sent member None slot (Accept vote)
            fine;
        reports = reports_nothing;
      }
        where
          vote : Vote
          vote = vote_for c.ballot bag

          unsent : (u : BagId) → ¬ WasSent w slot (Accept (vote_for c.ballot u))
          unsent u t = let h = cur.spent u t in cc

          proposes : (x : Network) → Extends w x n None
              → Proposes q x slot (vote_for c.ballot bag)
          proposes x g = record {
            issued = rw cur.own (g.keeps n slot _ cur.issued);
            backed = record {
              promises = ps;
              quorum = quorum;
              members = λ r h.
                  (is_in_decides q.members r.site).0
                  (now_members (promise_message slot r.site c.ballot r.prior) (promise_heard r h));
              sent = λ r h.
                  sent_extends g
                  (now_sent (promise_message slot r.site c.ballot r.prior) (promise_heard r h));
              prior = highest_prior ps;
              highest = prior_of ps (highest_prior ps) (highest_prior_is ps);
              follows =
                  subst (λ (j : ℕ). SatisfiesP2c x j slot (highest_prior ps) bag) (sym cur.own)
                  (follows_extends x (highest_prior ps) bag g follows);
            };
          }

          fine : (j : SlotName) (f : Current) (u : BagId) → now.current j ≡ Some f
              → IsNew slot (Accept (vote_for c.ballot bag)) j f.ballot u
              → q.is_quorum (promisers (gathered j f now.heard)) ≡ true
          fine j f u g i =
              let same : c ≡ f = cc (is_current, g, i.slot_is) in
              rw (← i.slot_is, ← same, now_gathered) quorum

    proposing_deed : (b : BallotNumber) (k : ℕ) (prior : Option Vote) → body ≡ Promise k b prior
        → (o : Option BagId)
        → ((bag : BagId) → o ≡ Some bag → IsReady b (record { site = k; prior = prior }) bag)
        → Deed q w n input (proposing q slot b o now)
    proposing_deed b k prior e None is = quiet_deed
    proposing_deed b k prior e (Some bag) is =
        let y = is bag refl in
        rw (← y.same)
        (proposed_deed y.c k prior bag (rw y.same e) y.is_current y.quorum y.unready
        (follows_own _ bag y.follows))

  -- ---- a message

  -- it says this, and nothing else comes of it
  pub says_deed : (input : Input) (says : Result (Option Line) SiteFault)
      → ReportsChosen q w (notice_of n input says)
      → Deed q w n input
      (record { commits = None; sends = []; says = says; volatile = old })
  says_deed input says reports =
      still_deed input None [] says any_slot (Ask n) reports
      (nothing_sent q w n (MayDeposit input) any_slot) tt
    where
      any_slot : SlotName
      any_slot = record { object = []; version = 0 }

  dropped_deed : (input : Input) → Deed q w n input (only_says site_lines.Dropped old)
  dropped_deed input = says_deed input (Ok (Some site_lines.Dropped)) (reports_plain _ refl)

  body_deed : (slot : SlotName) (body : Body) → WasSent w slot body
      → is_member q (body_from body) ≡ true
      → Deed q w n (Arrives (Some (record { slot = slot; body = body })))
      (on_body q n records old (hears old (record { slot = slot; body = body })) slot body)
  unfolding on_body
  body_deed slot (Prepare b) sent member =
      decided_deed _ _ sent member b.site _ (λ sites. prepare_sound q w n _ slot sites b)
  body_deed slot (Promise k b prior) sent member =
      proposing_deed _ _ sent member b k prior refl _
      (λ bag e. ready_is _ _ sent member b _ bag _ refl e)
  body_deed slot (Accept vote) sent member =
      decided_deed _ _ sent member vote.ballot.site _
      (λ sites. accept_sound q w n _ slot sites vote sent)
  body_deed slot (Accepted k vote) sent member =
      learning_deed _ _ sent member _
      (λ u e. voters_chosen _ _ sent member vote u
      (unless_known_is (known_of slot records) _ u e))
  body_deed slot (Refused k b c) sent member = quiet_deed _ _ sent member
  body_deed slot (Ask k) sent member = telling_deed _ _ sent member k _ refl
  body_deed slot (Known k bag) sent member =
      let chosen : IsChosen q w slot bag = inv.sent _ sent.is_sent in
      learning_deed _ _ sent member _
      (λ u e. rw (← some_same (unless_known_is (known_of slot records) (Some bag) u e)) chosen)
  body_deed slot body sent member = dropped_deed _

  -- bytes arrive that are no message, or a message that was sent
  pub arrival_deed : (o : Option Message) → ((m : Message) → o ≡ Some m → WasSent w m.slot m.body)
      → Deed q w n (Arrives o) (on_arrival q n records old o)
  unfolding on_arrival
  arrival_deed None sent = dropped_deed (Arrives None)
  arrival_deed (Some m) sent =
      cond_both (is_member q (body_from m.body)) _ _ (Deed q w n (Arrives (Some m)))
      (λ e. body_deed m.slot m.body (sent m refl) e) (λ e. dropped_deed (Arrives (Some m)))
