-- One promise more.
use Rattle.std.proofs.Common.{◌≡◌, ℕ, Bool, true, false, cond, ◌||◌, refl, sym, List, [], ◌∷◌, ◌++◌}
use Rattle.std.proofs.Common.{Option, None, Some, arith, length-append}
use Rattle.std.specs.Prelude.{◌==◌, fold}
use Rattle.std.proofs.lemmas.List.Sums.{fold-append}
use Rattle.std.proofs.lemmas.Bool.Decides.{nat_tests}
use Rattle.fed_types.specs.declared.bag_id.BagId.{BagId}
use Rattle.fed_types.specs.declared.vote.Vote.{Vote}
use Rattle.fed_types.specs.Ballots.{BallotNumber, same_ballot}
use Rattle.fed_types.specs.Lists.{is_in}
use Rattle.fed_types.specs.Quorums.{QuorumSystem, AreQuorums}
use Rattle.fed_types.specs.Slots.{SlotName}
use Rattle.fed_types.specs.Voters.{with_voter}
use Rattle.fed_types.specs.Laws.Ballots.{same_ballot_decides}
use Rattle.fed_types.specs.Laws.Quorums.{same_quorum}
use Rattle.fed_types.specs.Laws.Voters.{is_in-with_voter}
use Rattle.records.specs.SlotStates.{higher, if_some}
use Rattle.dgram.specs.declared.message.Message.{Message}
use Rattle.dgram.specs.Heard.{body_in, PromiseFrom, promise_in, promisers, priors}
use Rattle.dgram.proofs.Heard.{priors-append}
use Rattle.proposer.specs.declared.ballot_state.Promise.{Promise}
use Rattle.proposer.specs.BallotStates.{BallotState}
use Rattle.proposer.specs.Proposals.{Current, gathered, highest_prior, proposal, ready}
use Rattle.proposer.specs.VolatileStates.{promise_message}
use Rattle.proposer.specs.Rows.{Counts, CountsFor, waiting_in}
use Rattle.proposer.specs.inner.BallotStates.{higher_prior, counted, bag_after, waits_or_counts}
use Rattle.proposer.specs.inner.BallotStates.{given_bag, after_promise}
use Rattle.proposer.proofs.Gathered.{gathered-push, fold_one}
use Rattle.proposer.proofs.Known.{counts_same}
use Rattle.proposer.proofs.Tables.{here}

-- who promises, with one more
promisers-push : (ps : List PromiseFrom) (p : PromiseFrom) (n : ℕ)
    → is_in (promisers (ps ++ p ∷ [])) n ≡ (p.site == n || is_in (promisers ps) n)
unfolding promisers is_in
promisers-push [] p n = refl
promisers-push (r ∷ ps) p n =
    rw (promisers-push ps p n) (go (r.site == n) (p.site == n) (is_in (promisers ps) n))
  where
    go : (x y t : Bool) → (x || (y || t)) ≡ (y || (x || t))
    go true true t = refl
    go true false t = refl
    go false y t = refl

-- the highest vote, with one promise more
highest-push : (ps : List PromiseFrom) (p : PromiseFrom)
    → highest_prior (ps ++ p ∷ []) ≡ higher_prior (highest_prior ps) p.prior
unfolding highest_prior priors
highest-push ps p =
    let higher_vote = higher (λ (v : Vote). v.ballot) in
    rw (priors-append ps (p ∷ []), fold-append)
    (fold_one higher_vote (fold higher_vote None (priors ps)) p.prior)

flip : (a b : BallotNumber) → same_ballot a b ≡ same_ballot b a
flip a b = grind (arith, nat_tests)

module _ (slot : SlotName) (from : ℕ) (ballot : BallotNumber) (prior : Option Vote)
    (heard : List Message) where
  abbrev m : Message
  m = promise_message slot from ballot prior

  abbrev named : PromiseFrom
  named = record { site = from; prior = prior }

  abbrev p : Promise
  p = record { site = from; prior = prior }

  -- what the message is for a ballot that counts
  promise_is : (c : Current) (state : BallotState) (t : Bool) → Counts slot heard c state
      → same_ballot state.ballot ballot ≡ t
      → if_some (promise_in c.ballot) (body_in slot m) ≡ cond t (Some named) None
  promise_is c state t h same = rw (here slot, flip ballot c.ballot, ← h.ballot, same)

  pub counts_more : (c : Current) (state : BallotState) → Counts slot heard c state
      → same_ballot state.ballot ballot ≡ true
      → Counts slot (heard ++ m ∷ []) c (counted state p)
  counts_more c state h same =
      let gs = gathered slot c heard in
      let more : gathered slot c (heard ++ m ∷ []) ≡ gs ++ named ∷ [] =
      rw (gathered-push slot c heard m h.within, promise_is c state true h same) in
      record {
        ballot = h.ballot;
        promised_by = λ n. rw (more, promisers-push gs named n, ← h.promised_by n)
            (is_in-with_voter state.promised_by from n);
        best = rw (more, highest-push gs named, h.best);
        within = omega (arith, h.within, length-append heard (m ∷ []));
      }

  -- the proposal, by what was gathered
  proposal_is : (q : QuorumSystem) → AreQuorums q → (own : Option BagId) (c : Current)
      (state : BallotState) → Counts slot heard c state
      → proposal q own (gathered slot c heard) named ≡ bag_after q own state p
  unfolding proposal
  proposal_is q laws own c state h =
      let gs = gathered slot c heard in
      let voters = with_voter state.promised_by from in
      let with_it = same_quorum q (promisers (gs ++ named ∷ [])) voters laws
      (λ n. rw (promisers-push gs named n, ← h.promised_by n, is_in-with_voter)) in
      let without = same_quorum q (promisers gs) state.promised_by laws (λ n. sym (h.promised_by n))
      in
      rw (with_it, without, highest-push gs named, h.best)

  -- the bag that a row gives is the one to propose
  pub gives_ready : (q : QuorumSystem) → AreQuorums q → (own : Option BagId)
      (c : Option Current) (o : Option BallotState) → CountsFor slot heard c o
      → given_bag q own ballot p o ≡ ready q own slot c heard ballot named
  gives_ready q laws own None None h = refl
  gives_ready q laws own (Some c) (Some state) h = rw (h.ballot, proposal_is q laws own c state h)
  gives_ready q laws own _ _ h = absurd h

  -- what a row becomes, by whether it gives a bag
  abbrev pub After : Option Current → Option Message → Option BallotState → Option BagId → Type 0
  After c w o None = CountsFor slot (heard ++ m ∷ []) c o × (waiting_in slot o ≡ w)
  After c w o (Some bag) = CountsFor slot heard c o × (waiting_in slot o ≡ Some m)

  pub after_is : (q : QuorumSystem) (own : Option BagId) (c : Option Current) (w : Option Message)
      (o : Option BallotState)
      → CountsFor slot heard c o → waiting_in slot o ≡ w
      → After c w (after_promise q own ballot p o) (given_bag q own ballot p o)
  after_is q own None w None h e = (h, e)
  after_is q own (Some c) w (Some state) h e =
      go (same_ballot state.ballot ballot) (bag_after q own state p) refl
    where
      go : (t : Bool) (bag : Option BagId) → same_ballot state.ballot ballot ≡ t
          → After (Some c) w (Some (cond t (waits_or_counts bag state p) state)) (cond t bag None)
      go true (Some bag) same = (
        record { ballot = h.ballot; promised_by = h.promised_by; best = h.best; within = h.within },
        rw ((same_ballot_decides state.ballot ballot).0 same),
      )
      go true None same = (counts_more c state h same, e)
      go false bag differ = (counts_same m (promise_is c state false h differ) h, e)
  after_is q own _ w _ h e = absurd h
