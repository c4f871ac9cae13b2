-- What a site does with a well-formed message is well-formed.
use Rattle.std.proofs.Common.{ℕ, cond, ◌||◌, refl, List, [], ◌∷◌, ◌++◌, Option, None, Some}
use Rattle.std.specs.Option.{IfSome}
use Rattle.std.proofs.lemmas.Bool.{cond_both}
use Rattle.fed_types.specs.declared.bag_id.BagId.{BagId}
use Rattle.fed_types.specs.declared.vote.Vote.{Vote}
use Rattle.fed_types.specs.Ballots.{BallotNumber, below, same_ballot}
use Rattle.fed_types.specs.Quorums.{QuorumSystem}
use Rattle.fed_types.specs.Sites.{IsSiteNumber}
use Rattle.fed_types.specs.Slots.{SlotName}
use Rattle.fed_types.specs.Values.{IsSlot, IsBallot, IsBag, IsVote}
use Rattle.records.specs.declared.record.Record.{Record}
use Rattle.records.specs.Records.{IsEntry, AreRecords}
use Rattle.records.specs.SlotStates.{promised_of, vote_of, deposit_of, known_of}
use Rattle.dgram.specs.declared.body.Body.{Body}
use Rattle.dgram.specs.declared.body.Body.TheVariants.{Prepare, Promise, Accept, Accepted, Refused}
use Rattle.dgram.specs.declared.body.Body.TheVariants.{Ask, Known}
use Rattle.dgram.specs.declared.message.Message.{Message}
use Rattle.dgram.specs.Encoding.{body_from}
use Rattle.dgram.specs.Heard.{PromiseFrom, bodies_of, voters_for}
use Rattle.dgram.specs.Messages.{IsBody, IsPrior, IsMessage}
use Rattle.acceptor.specs.declared.decision.Response.{Response}
use Rattle.acceptor.specs.declared.decision.Response.TheVariants as answer
use Rattle.acceptor.specs.declared.decision.Decision.{Decision}
use Rattle.acceptor.specs.Decisions.{promises, votes, refuses, on_prepare, is_in_ballot, is_vote}
use Rattle.acceptor.specs.Decisions.{on_new_accept, prepare_decision, accept_decision}
use Rattle.learner.specs.LearnedBags.{unless_known, chosen_by, with_vote}
use Rattle.proposer.specs.Proposals.{Current, gathered, completes, highest_prior, bag_of, proposal}
use Rattle.proposer.specs.Proposals.{ready}
use Rattle.proposer.specs.VolatileStates.{VolatileState, hears}
use Rattle.site.specs.declared.answer.Line.TheVariants as site_lines
use Rattle.site.specs.Arrivals.{answer_body, addressees, decided, proposing, learning, telling}
use Rattle.site.specs.Arrivals.{on_body, is_member, on_arrival}
use Rattle.site.specs.Effects.{quiet, only_says}
use Rattle.world_law.specs.WellFormed.{MembersAreSites, AreMessages}
use Rattle.world_law.proofs.WellFormedWords.{all_with, if_given, is_prior, promised_is}
use Rattle.world_law.proofs.WellFormedWords.{vote_is, deposit_is, known_is, followed_is}
use Rattle.world_law.proofs.WellFormedEffects.{IsWellFormedEffect, AreSites, one_site, sends_are}
use Rattle.world_law.proofs.WellFormedEffects.{says_is}

-- the entry that an acceptor records, and its answer
record IsWellFormedDecision (n : ℕ) (d : Decision) : Type 0 where
  entry : IfSome d.entry IsEntry
  body : IsBody (answer_body n d.answer)

-- ---- site n, with these records and this volatile state

module _ (q : QuorumSystem) (members : MembersAreSites q) (n : ℕ) (is_site : IsSiteNumber n)
    (records : List Record) (are_records : AreRecords records) (old : VolatileState)
    (are_heard : AreMessages old.heard) where
  module _ (slot : SlotName) (is_slot : IsSlot slot) where
    -- ---- the acceptor

    promises_is : (b : BallotNumber) → IsBallot b
        → IsWellFormedDecision n (promises b (vote_of slot records))
    promises_is b is_b = record {
      entry = is_b;
      body = (is_site, is_b, is_prior (vote_of slot records) (vote_is slot records are_records));
    }

    votes_is : (vote : Vote) → IsVote vote → IsWellFormedDecision n (votes vote)
    votes_is vote is_vote = record { entry = is_vote; body = (is_site, is_vote) }

    refuses_is : (asked standing : BallotNumber) → IsBallot asked → IsBallot standing
        → IsWellFormedDecision n (refuses asked standing)
    refuses_is asked standing is_asked is_standing =
        record { entry = tt; body = (is_site, is_asked, is_standing) }

    prepare_is : (b : BallotNumber) → IsBallot b
        → IsWellFormedDecision n (prepare_decision slot records b)
    unfolding prepare_decision
    prepare_is b is_b =
        on_promised (promised_of slot records) (promised_is slot records are_records)
      where
        on_promised : (o : Option BallotNumber) → IfSome o IsBallot
            → IsWellFormedDecision n (on_prepare o (vote_of slot records) b)
        on_promised None h = promises_is b is_b
        on_promised (Some p) h =
            cond_both (below p b) _ _ (IsWellFormedDecision n) (λ e. promises_is b is_b)
            (λ e. refuses_is b p is_b h)

    accept_is : (asked : Vote) → IsVote asked
        → IsWellFormedDecision n (accept_decision slot records asked)
    unfolding accept_decision
    accept_is asked is_asked =
        cond_both (is_vote asked (vote_of slot records)) _ _ (IsWellFormedDecision n)
        (λ e. record { entry = tt; body = (is_site, is_asked) })
        (λ e. on_promised (promised_of slot records) (promised_is slot records are_records))
      where
        on_promised : (o : Option BallotNumber) → IfSome o IsBallot
            → IsWellFormedDecision n (on_new_accept o (vote_of slot records) asked)
        on_promised None h = votes_is asked is_asked
        on_promised (Some p) h =
            cond_both (below asked.ballot p || is_in_ballot asked.ballot (vote_of slot records)) _ _
            (IsWellFormedDecision n) (λ e. refuses_is asked.ballot p is_asked.0 h)
            (λ e. votes_is asked is_asked)

    addressed : (asker : ℕ) → IsSiteNumber asker → (a : Response) → AreSites (addressees q asker a)
    addressed asker is_asker (answer.Accepted vote) = members
    addressed asker is_asker a = one_site asker is_asker

    -- ---- with the volatile state after the message

    module _ (now : VolatileState) (now_heard : AreMessages now.heard) where
      quiet_is : IsWellFormedEffect (quiet now)
      quiet_is = says_is (quiet now) refl tt now_heard

      decided_is : (asker : ℕ) → IsSiteNumber asker → (d : Decision) → IsWellFormedDecision n d
          → IsWellFormedEffect (decided q n slot asker d now)
      decided_is asker is_asker d is =
          sends_are slot is_slot d.entry is.entry (answer_body n d.answer) is.body
          (addressees q asker d.answer) (addressed asker is_asker d.answer) now now_heard

      -- ---- the learner

      learning_is : (o : Option BagId) → IfSome o IsBag
          → IsWellFormedEffect (learning slot o now)
      learning_is None h = quiet_is
      learning_is (Some bag) h = says_is (learning slot (Some bag) now) refl (is_slot, h) now_heard

      telling_is : (asker : ℕ) → IsSiteNumber asker → (o : Option BagId) → IfSome o IsBag
          → IsWellFormedEffect (telling n slot asker o now)
      telling_is asker is_asker None h = quiet_is
      telling_is asker is_asker (Some bag) h =
          sends_are slot is_slot None tt (Known n bag) (is_site, h) (asker ∷ [])
          (one_site asker is_asker) now now_heard

      -- ---- the proposer

      proposing_is : (b : BallotNumber) → IsBallot b → (o : Option BagId) → IfSome o IsBag
          → IsWellFormedEffect (proposing q slot b o now)
      proposing_is b is_b None h = quiet_is
      proposing_is b is_b (Some bag) h =
          sends_are slot is_slot None tt (Accept (record { ballot = b; bag = bag })) (is_b, h)
          q.members members now now_heard

    unless_known_is : (known o : Option BagId) → IfSome o IsBag
        → IfSome (unless_known known o) IsBag
    unless_known_is None o h = h
    unless_known_is (Some known) o h = tt

    chosen_is : (heard : List Message) (vote : Vote) → IsVote vote
        → IfSome (chosen_by q slot heard vote) IsBag
    unfolding chosen_by
    chosen_is heard vote h =
        if_given IsBag (q.is_quorum (voters_for vote (bodies_of slot heard))) (Some vote.bag) h.1

    ready_is : (c : Option Current) (b : BallotNumber) (p : PromiseFrom) → IsPrior p.prior
        → IfSome (ready q (deposit_of slot records) slot c old.heard b p) IsBag
    unfolding proposal
    ready_is None b p h = tt
    ready_is (Some c) b p h =
        let ps : List PromiseFrom = gathered slot c old.heard in
        let own : Option BagId = deposit_of slot records in
        let bag : Option BagId = bag_of (highest_prior (ps ++ p ∷ [])) own in
        if_given IsBag (same_ballot c.ballot b) (cond (completes q ps p) bag None)
        (if_given IsBag (completes q ps p) bag
        (followed_is slot c old.heard are_heard p h own (deposit_is slot records are_records)))

  -- ---- a message

  dropped_is : IsWellFormedEffect (only_says site_lines.Dropped old)
  dropped_is = says_is (only_says site_lines.Dropped old) refl tt are_heard

  body_is : (slot : SlotName) → IsSlot slot → (body : Body) → IsBody body → (now : VolatileState)
      → AreMessages now.heard → IsWellFormedEffect (on_body q n records old now slot body)
  unfolding on_body
  body_is slot is_slot (Prepare b) is now heard =
      decided_is slot is_slot now heard b.site is.2 _ (prepare_is slot is_slot b is)
  body_is slot is_slot (Promise from b prior) is now heard =
      proposing_is slot is_slot now heard b is.1 _
      (ready_is slot is_slot (old.current slot) b (record { site = from; prior = prior }) is.2)
  body_is slot is_slot (Accept vote) is now heard =
      decided_is slot is_slot now heard vote.ballot.site is.0.2 _ (accept_is slot is_slot vote is)
  body_is slot is_slot (Accepted from vote) is now heard =
      learning_is slot is_slot now heard _
      (unless_known_is slot is_slot (known_of slot records)
      (chosen_by q slot (with_vote old.heard slot from vote) vote)
      (chosen_is slot is_slot (with_vote old.heard slot from vote) vote is.1))
  body_is slot is_slot (Refused from asked standing) is now heard = quiet_is slot is_slot now heard
  body_is slot is_slot (Ask from) is now heard =
      telling_is slot is_slot now heard from is (known_of slot records)
      (known_is slot records are_records)
  body_is slot is_slot (Known from bag) is now heard =
      learning_is slot is_slot now heard _
      (unless_known_is slot is_slot (known_of slot records) (Some bag) is.1)
  body_is slot is_slot body is now heard = dropped_is

  pub arrival_is : (o : Option Message) → IfSome o IsMessage
      → IsWellFormedEffect (on_arrival q n records old o)
  unfolding on_arrival
  arrival_is None h = dropped_is
  arrival_is (Some m) h =
      cond_both (is_member q (body_from m.body)) _ _ IsWellFormedEffect
      (λ e. body_is m.slot h.0 m.body h.1 (hears old m)
      (all_with IsMessage old.heard (Some m) are_heard h))
      (λ e. dropped_is)
