-- What a learner represents after it has heard of one more vote.
use Rattle.std.proofs.Common.{◌≡◌, ℕ, ◌&&◌, ◌||◌, Bool, true, false, cond, List, [], ◌∷◌}
use Rattle.std.proofs.Common.{Option, Some, None, refl, sym, ap, subst, ◌∙◌}
use Rattle.std.specs.Bool.{◌==◌, Decides}
use Rattle.std.proofs.lemmas.Bool.Decides.{Decides-and}
use Rattle.fed_types.specs.declared.bag_id.BagId.{BagId}
use Rattle.fed_types.specs.declared.vote.Vote.{Vote}
use Rattle.fed_types.specs.Laws.Bags.{same_bag_decides}
use Rattle.fed_types.specs.Laws.Ballots.{same_ballot_decides}
use Rattle.fed_types.specs.Laws.Lists.{is_in-append}
use Rattle.fed_types.specs.Laws.Quorums.{same_quorum}
use Rattle.fed_types.specs.Laws.Slots.{same_slot_decides}
use Rattle.fed_types.specs.Laws.Voters.{is_in-with_voter}
use Rattle.fed_types.specs.Lists.{is_in}
use Rattle.fed_types.specs.Quorums.{QuorumSystem, AreQuorums}
use Rattle.fed_types.specs.Slots.{SlotName, same_slot}
use Rattle.fed_types.specs.Voters.{with_voter}
use Rattle.records.specs.declared.record.Record.{Record}
use Rattle.records.specs.SlotStates.{known_of}
use Rattle.dgram.specs.declared.body.Body.TheVariants.{Accepted}
use Rattle.dgram.specs.declared.message.Message.{Message}
use Rattle.dgram.specs.Heard.{same_vote, bodies_of, voters_for}
use Rattle.dgram.proofs.Heard.{bodies_of-append, voters_for-append}
use Rattle.slot_table.specs.Rows.{Rows, row_at}
use Rattle.learner.specs.declared.row.Row.{Row}
use Rattle.learner.specs.inner.Counts.{KnowsSame, CountsSame, IsCounted, UnlessKnown}
use Rattle.learner.specs.inner.Counts.{is_learned}
use Rattle.learner.specs.LearnedBags.{with_vote, chosen_by, learned_from, unless_known}
use Rattle.learner.specs.LearnerStates.{LearnerState, known_in, counted_in, Represents}

-- two votes are one exactly where the test says so
same_parts : (a b : Vote) → a.ballot ≡ b.ballot → a.bag ≡ b.bag → a ≡ b
same_parts a b e f = λ i. record { ballot = e i; bag = f i }

pub same_vote_decides : (a b : Vote) → Decides (same_vote a b) (a ≡ b)
same_vote_decides a b =
    let both = Decides-and _ _ (same_ballot_decides a.ballot b.ballot)
    (same_bag_decides a.bag b.bag) in (
      λ h. let p = both.0 h in same_parts a b p.0 p.1,
      λ e. both.1 (ap (λ (v : Vote). v.ballot) e, ap (λ (v : Vote). v.bag) e),
    )

-- whether a vote for this slot counts for that one
abbrev counts_for : SlotName → Vote → SlotName → Vote → Bool
counts_for slot vote s v = same_slot slot s && same_vote vote v

module _ (slot : SlotName) (from : ℕ) (vote : Vote) (heard : List Message) where
  abbrev after : List Message
  after = with_vote heard slot from vote

  -- the sites that were heard to have cast a vote before
  abbrev cast_before : SlotName → Vote → List ℕ
  cast_before s v = voters_for v (bodies_of s heard)

  -- of the new message alone
  cast_now : (s : SlotName) (v : Vote)
      → voters_for v (bodies_of s (record { slot = slot; body = Accepted from vote } ∷ []))
      ≡ cond (counts_for slot vote s v) (from ∷ []) []
  unfolding voters_for bodies_of
  cast_now s v = go (same_slot slot s) (same_vote vote v) refl refl
    where
      go : (t u : Bool) → same_slot slot s ≡ t → same_vote vote v ≡ u
          → voters_for v (bodies_of s (record { slot = slot; body = Accepted from vote } ∷ []))
          ≡ cond (t && u) (from ∷ []) []
      go true true e f = rw (e, f) refl
      go true false e f = rw (e, f) refl
      go false u e f = rw e refl

  -- the sites that were heard to have cast a vote, as a set
  pub cast_after : (s : SlotName) (v : Vote) (n : ℕ)
      → is_in (voters_for v (bodies_of s after)) n
      ≡ cond (counts_for slot vote s v) (from == n || is_in (cast_before s v) n)
      (is_in (cast_before s v) n)
  unfolding is_in
  cast_after s v n =
      ap (λ xs. is_in (voters_for v xs) n)
      (bodies_of-append s heard (record { slot = slot; body = Accepted from vote } ∷ []))
      ∙ ap (λ xs. is_in xs n) (voters_for-append v (bodies_of s heard)
      (bodies_of s (record { slot = slot; body = Accepted from vote } ∷ [])))
      ∙ is_in-append (cast_before s v) _ n
      ∙ ap (λ xs. is_in (cast_before s v) n || is_in xs n) (cast_now s v)
      ∙ go (counts_for slot vote s v) (is_in (cast_before s v) n)
    where
      go : (t u : Bool) → (u || is_in (cond t (from ∷ []) []) n) ≡ cond t (from == n || u) u
      go true true = at_last (from == n)
        where
          at_last : (x : Bool) → true ≡ (x || true)
          at_last true = refl
          at_last false = refl
      go true false = at_first (from == n)
        where
          at_first : (x : Bool) → (x || false) ≡ (x || false)
          at_first x = refl
      go false true = refl
      go false false = refl

-- rows that say the same represent the same
pub same_stands : (old new : Rows Row) → KnowsSame old new → CountsSame old new
    → (records : List Record) (heard : List Message)
    → Represents old records heard → Represents new records heard
same_stands old new known counted records heard stands = record {
  known = λ s. known s ∙ stands.known s;
  votes = λ s none v n. ap (λ xs. is_in xs n) (counted s v) ∙ stands.votes s none v n;
}

module _ (old : Rows Row) (records : List Record) (heard : List Message) (slot : SlotName)
    (from : ℕ) (vote : Vote) (stands : Represents old records heard) where
  -- the sites counted for a vote, as a set, before and after
  abbrev cast : SlotName → Vote → ℕ → Bool
  cast s v n = is_in (voters_for v (bodies_of s heard)) n

  abbrev cast_then : SlotName → Vote → ℕ → Bool
  cast_then s v n = is_in (voters_for v (bodies_of s (with_vote heard slot from vote))) n

  -- of a slot whose bag is known nothing has to be counted
  pub heard_known : (bag : BagId) → known_in (row_at old slot) ≡ Some bag
      → Represents old records (with_vote heard slot from vote)
  heard_known bag is = record {
    known = stands.known;
    votes = λ s none v n. stands.votes s none v n
        ∙ sym (cast_after slot from vote heard s v n
        ∙ go s none v n (same_slot slot s) refl);
  }
    where
      some_none : Some bag ≡ None → ⊥
      some_none e = cc

      go : (s : SlotName) → known_of s records ≡ None → (v : Vote) (n : ℕ) (t : Bool)
          → same_slot slot s ≡ t
          → cond (t && same_vote vote v) (from == n || cast s v n) (cast s v n) ≡ cast s v n
      go s none v n true e =
          let known : known_in (row_at old s) ≡ Some bag =
          subst (λ (k : SlotName). known_in (row_at old k) ≡ Some bag)
          ((same_slot_decides slot s).0 e) is in
          absurd (some_none (sym known ∙ stands.known s ∙ none))
      go s none v n false e = refl

  -- the site counts for the vote from now on
  pub heard_counted : (new : Rows Row) → KnowsSame old new
      → IsCounted old new slot vote (with_voter (counted_in (row_at old slot) vote) from)
      → Represents new records (with_vote heard slot from vote)
  heard_counted new known counted = record {
    known = λ s. known s ∙ stands.known s;
    votes = λ s none v n. ap (λ xs. is_in xs n) (counted s v)
        ∙ go s none v n (same_slot slot s) (same_vote vote v) refl refl
        ∙ sym (cast_after slot from vote heard s v n);
  }
    where
      go : (s : SlotName) → known_of s records ≡ None → (v : Vote) (n : ℕ) (t u : Bool)
          → same_slot slot s ≡ t → same_vote vote v ≡ u
          → is_in (cond (t && u) (with_voter (counted_in (row_at old slot) vote) from)
          (counted_in (row_at old s) v)) n
          ≡ cond (t && u) (from == n || cast s v n) (cast s v n)
      go s none v n true true e f =
          is_in-with_voter (counted_in (row_at old slot) vote) from n
          ∙ ap (λ (t : Bool). from == n || t)
          (ap (λ (k : SlotName). is_in (counted_in (row_at old k) vote) n)
          ((same_slot_decides slot s).0 e)
          ∙ ap (λ (w : Vote). is_in (counted_in (row_at old s) w) n)
          ((same_vote_decides vote v).0 f)
          ∙ stands.votes s none v n)
      go s none v n true false e f = stands.votes s none v n
      go s none v n false u e f = stands.votes s none v n

  -- what is learned, by the counted sites
  pub learned_is : (quorums : QuorumSystem) → AreQuorums quorums
      → known_in (row_at old slot) ≡ None
      → learned_from quorums slot records heard from vote
      ≡ cond (quorums.is_quorum (with_voter (counted_in (row_at old slot) vote) from))
      (Some vote.bag) None
  unfolding chosen_by
  learned_is quorums laws none =
      let unknown : known_of slot records ≡ None = sym (stands.known slot) ∙ none in
      rw unknown (ap (λ (t : Bool). cond t (Some vote.bag) None)
      (sym (same_quorum quorums (with_voter (counted_in (row_at old slot) vote) from)
      (voters_for vote (bodies_of slot (with_vote heard slot from vote))) laws
      (λ n. alike n unknown))))
    where
      alike : (n : ℕ) → known_of slot records ≡ None
          → is_in (with_voter (counted_in (row_at old slot) vote) from) n ≡ cast_then slot vote n
      alike n unknown =
          is_in-with_voter (counted_in (row_at old slot) vote) from n
          ∙ ap (λ (t : Bool). from == n || t) (stands.votes slot unknown vote n)
          ∙ sym (cast_after slot from vote heard slot vote n
          ∙ rw ((same_slot_decides slot slot).1 refl, (same_vote_decides vote vote).1 refl)
          refl)

  -- what is learned, as the code finds it
  pub learned_as : (quorums : QuorumSystem) → AreQuorums quorums → (learned : Bool)
      → learned ≡ is_learned quorums (known_in (row_at old slot))
      (with_voter (counted_in (row_at old slot) vote) from)
      → cond learned (Some vote.bag) None ≡ learned_from quorums slot records heard from vote
  learned_as quorums laws learned is = go (known_in (row_at old slot)) refl is
    where
      go : (k : Option BagId) → known_in (row_at old slot) ≡ k
          → learned ≡ is_learned quorums k (with_voter (counted_in (row_at old slot) vote) from)
          → cond learned (Some vote.bag) None ≡ learned_from quorums slot records heard from vote
      go None e test =
          ap (λ (t : Bool). cond t (Some vote.bag) None) test ∙ sym (learned_is quorums laws e)
      go (Some bag) e test =
          ap (λ (t : Bool). cond t (Some vote.bag) None) test
          ∙ sym (ap (λ (k : Option BagId). unless_known k
          (chosen_by quorums slot (with_vote heard slot from vote) vote))
          (sym (stands.known slot) ∙ e))

  -- what the learner represents, once the vote counts wherever no bag is known
  pub heard_as : (new : Rows Row) → KnowsSame old new
      → UnlessKnown (known_in (row_at old slot)) (CountsSame old new)
      (IsCounted old new slot vote (with_voter (counted_in (row_at old slot) vote) from))
      → Represents new records (with_vote heard slot from vote)
  heard_as new known counted = go (known_in (row_at old slot)) refl counted
    where
      go : (k : Option BagId) → known_in (row_at old slot) ≡ k
          → UnlessKnown k (CountsSame old new)
          (IsCounted old new slot vote (with_voter (counted_in (row_at old slot) vote) from))
          → Represents new records (with_vote heard slot from vote)
      go None e h = heard_counted new known h
      go (Some bag) e h =
          same_stands old new known h records (with_vote heard slot from vote) (heard_known bag e)

-- what a learner learns, as a clause sees it
pub learned_by : {Q : Type 0} (system : Q → QuorumSystem)
    → ((members : Q) → AreQuorums (system members)) → {inside now : LearnerState Q} → inside ≡ now
    → (slot : SlotName) (from : ℕ) (vote : Vote) (records : List Record) (heard : List Message)
    → Represents now.rows records heard → (learned : Bool)
    → learned ≡ is_learned (system inside.members) (known_in (row_at inside.rows slot))
    (with_voter (counted_in (row_at inside.rows slot) vote) from)
    → cond learned (Some vote.bag) None
    ≡ learned_from (system now.members) slot records heard from vote
learned_by {Q} system laws {inside} {now} seen slot from vote records heard stands learned is =
    learned_as now.rows records heard slot from vote stands (system now.members)
    (laws now.members) learned
    (subst (λ (l : LearnerState Q). learned ≡ is_learned (system l.members)
    (known_in (row_at l.rows slot)) (with_voter (counted_in (row_at l.rows slot) vote) from))
    seen is)
