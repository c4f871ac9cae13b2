-- What an acceptor decides agrees with a network that is kept.
use Rattle.std.proofs.Common.{ℕ, ◌≡◌, Bool, true, false, cond, ◌||◌, inl, inr, refl}
use Rattle.std.proofs.Common.{List, Option, None, Some}
use Rattle.std.proofs.lemmas.Bool.{and_parts, cond_both}
use Rattle.fed_types.specs.declared.vote.Vote.{Vote}
use Rattle.fed_types.specs.Bags.{same_bag}
use Rattle.fed_types.specs.Ballots.{BallotNumber, below, Below, same_ballot}
use Rattle.fed_types.specs.Quorums.{QuorumSystem}
use Rattle.fed_types.specs.Slots.{SlotName}
use Rattle.fed_types.specs.Laws.Bags.{same_bag_decides}
use Rattle.fed_types.specs.Laws.Ballots.{same_ballot_decides}
use Rattle.records.specs.declared.entry.Entry.TheVariants as entry
use Rattle.records.specs.declared.record.Record.{Record}
use Rattle.records.specs.Bounds.{AtLeast}
use Rattle.records.specs.SlotStates.{promised_of, vote_of}
use Rattle.records.proofs.Bounds.{promised_bounds, vote_bounds, vote_among}
use Rattle.dgram.specs.declared.body.Body.TheVariants.{Accept}
use Rattle.acceptor.specs.declared.decision.Decision.{Decision}
use Rattle.acceptor.specs.Decisions.{promises, votes, votes_again, refuses, on_prepare}
use Rattle.acceptor.specs.Decisions.{is_in_ballot}
use Rattle.acceptor.specs.Decisions.{is_vote, on_new_accept, prepare_decision, accept_decision}
use Rattle.site.specs.Arrivals.{answer_body}
use Rattle.site.specs.Effects.{to_each, record_of}
use Rattle.world_law.specs.Laws.{OnRecord, WasSent, IsPrior}
use Rattle.world_law.specs.Networks.{Network}
use Rattle.world_law.proofs.Order.{below_is, below_not, below_at_most, at_most_trans}
use Rattle.world_law.proofs.Step.{Extends, Deposits, Sound}
use Rattle.world_law.proofs.Deeds.{some_same, same_entry, sent_extends, carries_each, only_sends}
use Rattle.world_law.proofs.Deeds.{keeps_one}

none_some : {A : Type 0} {ballot : A → BallotNumber} {x : A} → ¬ AtLeast ballot None x
none_some a = let e = a.is in cc

-- a promise's record is no vote's
no_vote : {slot k : SlotName} {b : BallotNumber} {vote : Vote}
    → record_of slot (Some (entry.Promise b)) ≡ Some (record { slot = k; body = entry.Vote vote })
    → ⊥
no_vote h = let f = same_entry h in cc

-- the bound itself
bound : {A : Type 0} (ballot : A → BallotNumber) (x y : A) → AtLeast ballot (Some x) y
    → ¬ Below (ballot x) (ballot y)
bound ballot x y a = let e : a.top ≡ x = let f = a.is in cc in rw e at a.at_least

-- site n, asked about a slot
module _ (q : QuorumSystem) (w : Network) (n : ℕ) (D : Deposits) (slot : SlotName) where
  abbrev records : List Record
  records = (w.sites n).records

  -- the record of a decision, and its answer to these sites, agree with the network
  abbrev pub DecisionSound : List ℕ → Decision → Type 0
  DecisionSound sites d =
      Sound q w n D (record_of slot d.entry) slot (answer_body n d.answer)
      (to_each slot (answer_body n d.answer) sites)

  refused : (sites : List ℕ) (asked standing : BallotNumber)
      → DecisionSound sites (refuses asked standing)
  refused sites asked standing =
      only_sends q w n D _ _ _ (carries_each slot _ sites) refl (λ x g. tt)

  abbrev IsPromised : Option BallotNumber → Type 0
  IsPromised o = promised_of slot records ≡ o

  -- ---- Prepare

  abbrev AllBelow : BallotNumber → Type 0
  AllBelow b = (vote : Vote) → OnRecord w n slot (entry.Vote vote) → Below vote.ballot b

  -- the vote so far is the highest vote below b from now on
  prior_given : (b : BallotNumber) (x : Network)
      → Extends w x n (record_of slot (Some (entry.Promise b))) → AllBelow b
      → (o : Option Vote) → vote_of slot records ≡ o → IsPrior x n slot b o
  prior_given b x g lower None e = λ vote h. elim (g.only _ h) [
    | inl old ↦ absurd (none_some (rw e at (vote_bounds slot records vote old)))
    | inr new ↦ absurd (no_vote new)
  ]
  prior_given b x g lower (Some y) e =
      let voted = vote_among slot records y e in
      record {
        voted = g.keeps n slot _ voted;
        lower = lower y voted;
        none_higher = λ vote h l. elim (g.only _ h) [
          | inl old ↦
              bound (λ (u : Vote). u.ballot) y vote (rw e at (vote_bounds slot records vote old))
          | inr new ↦ absurd (no_vote new)
        ];
      }

  promise_given : (sites : List ℕ) (b : BallotNumber) → AllBelow b
      → DecisionSound sites (promises b (vote_of slot records))
  promise_given sites b lower =
      keeps_one q w n D slot _ _ _ (carries_each slot _ sites) refl
      (λ x g. tt)
      (λ x g. record {
        kept = g.added _ refl;
        prior_is = prior_given b x g lower (vote_of slot records) refl;
      })

  all_below : (o : Option BallotNumber) → IsPromised o → (b : BallotNumber)
      → ((c : BallotNumber) → o ≡ Some c → Below c b) → AllBelow b
  all_below o e b l vote h =
      go o e (promised_bounds slot records (entry.Vote vote) vote.ballot h refl) l
    where
      go : (o : Option BallotNumber) → promised_of slot records ≡ o
          → AtLeast (λ (b : BallotNumber). b) (promised_of slot records) vote.ballot
          → ((c : BallotNumber) → o ≡ Some c → Below c b) → Below vote.ballot b
      go None e a l = absurd (none_some (rw e at a))
      go (Some p) e a l =
          below_at_most vote.ballot p b
          (bound (λ (b : BallotNumber). b) p vote.ballot (rw e at a)) (l p refl)

  on_prepare_sound : (sites : List ℕ) (b : BallotNumber) (o : Option BallotNumber) → IsPromised o
      → DecisionSound sites (on_prepare o (vote_of slot records) b)
  on_prepare_sound sites b None e =
      promise_given sites b (all_below None e b (λ c f. absurd (cc f)))
  on_prepare_sound sites b (Some p) e =
      cond_both (below p b) (promises b (vote_of slot records)) (refuses b p) (DecisionSound sites)
      (λ f. promise_given sites b
      (all_below (Some p) e b (λ c g. rw (← some_same g) (below_is p b f))))
      (λ f. refused sites b p)

  pub prepare_sound : (sites : List ℕ) (b : BallotNumber)
      → DecisionSound sites (prepare_decision slot records b)
  unfolding prepare_decision
  prepare_sound sites b = on_prepare_sound sites b (promised_of slot records) refl

  -- ---- Accept

  abbrev NoneAbove : BallotNumber → Type 0
  NoneAbove b = (c : BallotNumber) → OnRecord w n slot (entry.Promise c) → ¬ Below b c

  vote_sound : (sites : List ℕ) (asked : Vote) → WasSent w slot (Accept asked)
      → NoneAbove asked.ballot → DecisionSound sites (votes asked)
  vote_sound sites asked sent above =
      keeps_one q w n D slot _ _ _ (carries_each slot _ sites) refl
      (λ x g. record { asked = sent_extends g sent; above = above }) (λ x g. g.added _ refl)

  none_above : (o : Option BallotNumber) → IsPromised o → (b : BallotNumber)
      → ((p : BallotNumber) → o ≡ Some p → ¬ Below b p) → NoneAbove b
  none_above o e b l c h = go o e (promised_bounds slot records (entry.Promise c) c h refl) l
    where
      go : (o : Option BallotNumber) → promised_of slot records ≡ o
          → AtLeast (λ (b : BallotNumber). b) (promised_of slot records) c
          → ((p : BallotNumber) → o ≡ Some p → ¬ Below b p) → ¬ Below b c
      go None e a l = absurd (none_some (rw e at a))
      go (Some p) e a l =
          at_most_trans c p b (bound (λ (b : BallotNumber). b) p c (rw e at a)) (l p refl)

  on_new_accept_sound : (sites : List ℕ) (asked : Vote) → WasSent w slot (Accept asked)
      → (o : Option BallotNumber) → IsPromised o
      → DecisionSound sites (on_new_accept o (vote_of slot records) asked)
  on_new_accept_sound sites asked sent None e =
      vote_sound sites asked sent (none_above None e asked.ballot (λ p f. absurd (cc f)))
  on_new_accept_sound sites asked sent (Some p) e =
      go (below asked.ballot p) (is_in_ballot asked.ballot (vote_of slot records)) refl
    where
      go : (t u : Bool) → below asked.ballot p ≡ t
          → DecisionSound sites (cond (t || u) (refuses asked.ballot p) (votes asked))
      go true u f = refused sites asked.ballot p
      go false true f = refused sites asked.ballot p
      go false false f =
          vote_sound sites asked sent
          (none_above (Some p) e asked.ballot
          (λ c g. rw (← some_same g) (below_not asked.ballot p f)))

  same_vote_is : (asked : Vote) (o : Option Vote) → is_vote asked o ≡ true → o ≡ Some asked
  same_vote_is asked None e = absurd (cc e)
  same_vote_is asked (Some u) e =
      let parts = and_parts (same_ballot u.ballot asked.ballot) (same_bag u.bag asked.bag) e in
      let ballot = (same_ballot_decides u.ballot asked.ballot).0 parts.0 in
      let bag = (same_bag_decides u.bag asked.bag).0 parts.1 in
      λ i. Some (record { ballot = ballot i; bag = bag i })

  pub accept_sound : (sites : List ℕ) (asked : Vote) → WasSent w slot (Accept asked)
      → DecisionSound sites (accept_decision slot records asked)
  unfolding accept_decision
  accept_sound sites asked sent =
      cond_both (is_vote asked (vote_of slot records)) (votes_again asked)
      (on_new_accept (promised_of slot records) (vote_of slot records) asked) (DecisionSound sites)
      (λ f. only_sends q w n D _ _ _ (carries_each slot _ sites) refl
      (λ x g. g.keeps n slot _
      (vote_among slot records asked (same_vote_is asked (vote_of slot records) f))))
      (λ f. on_new_accept_sound sites asked sent (promised_of slot records) refl)
