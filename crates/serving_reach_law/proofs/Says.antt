-- What arrives is never refused, changes no ballot, and is answered to each member at most.
use Rattle.std.proofs.Common.{ℕ, ◌≡◌, ◌≤◌, ◌+◌, ◌⊎◌, inl, inr, refl, Bool, true, false, cond, List}
use Rattle.std.proofs.Common.{[], ◌∷◌, length, Option, None, Some, arith}
use Rattle.std.specs.Prelude.{Ok}
use Rattle.std.proofs.lemmas.List.{length-map}
use Rattle.fed_types.specs.declared.bag_id.BagId.{BagId}
use Rattle.fed_types.specs.Ballots.{BallotNumber}
use Rattle.fed_types.specs.Quorums.{QuorumSystem}
use Rattle.fed_types.specs.Slots.{SlotName}
use Rattle.records.specs.declared.record.Record.{Record}
use Rattle.records.specs.SlotStates.{deposit_of, known_of}
use Rattle.dgram.specs.declared.body.Body.{Body}
use Rattle.dgram.specs.declared.body.Body.TheVariants.{Prepare, Promise, Accept, Accepted, Refused}
use Rattle.dgram.specs.declared.body.Body.TheVariants.{Ask, Known}
use Rattle.dgram.specs.declared.message.Message.{Message}
use Rattle.dgram.specs.Encoding.{body_from}
use Rattle.acceptor.specs.declared.decision.Decision.{Decision}
use Rattle.acceptor.specs.declared.decision.Response.{Response}
use Rattle.acceptor.specs.declared.decision.Response.TheVariants as answer
use Rattle.acceptor.specs.Decisions.{prepare_decision, accept_decision}
use Rattle.proposer.specs.Proposals.{ready}
use Rattle.proposer.specs.VolatileStates.{VolatileState, hears}
use Rattle.learner.specs.LearnedBags.{learned_from, learned_of_known}
use Rattle.site.specs.declared.answer.Line.{Line}
use Rattle.site.specs.declared.answer.Line.TheVariants as site_lines
use Rattle.site.specs.Arrivals.{answer_body, addressees, decided, proposing, learning, telling}
use Rattle.site.specs.Arrivals.{on_body, on_arrival, is_member}
use Rattle.site.specs.Effects.{Effect, to_each, only_says}

-- it says something, and is no refusal; the message was heard, or wasn't; and no more is sent
pub record IsPlain (q : QuorumSystem) (old now : VolatileState) (e : Effect) : Type 0 where
  pub line : Option Line
  pub says : e.says ≡ Ok line
  pub volatile : (e.volatile ≡ now) ⊎ (e.volatile ≡ old)
  pub few : length e.sends ≤ 1 + length q.members

pub as_many : (slot : SlotName) (body : Body) (sites : List ℕ)
    → length (to_each slot body sites) ≡ length sites
unfolding to_each
as_many slot body sites =
    length-map sites
    (λ (site : ℕ). record { to = site; message = record { slot = slot; body = body } })

module _ (q : QuorumSystem) (n : ℕ) (records : List Record) where
  decided_plain : (slot : SlotName) (asker : ℕ) (d : Decision) (old now : VolatileState)
      → IsPlain q old now (decided q n slot asker d now)
  decided_plain slot asker d old now = record {
    line = None;
    says = refl;
    volatile = inl refl;
    few = by_answer d.answer;
  }
    where
      by_answer : (a : Response)
          → length (to_each slot (answer_body n a) (addressees q asker a)) ≤ 1 + length q.members
      by_answer (answer.Promised ballot vote) =
          omega (arith, as_many slot (answer_body n (answer.Promised ballot vote)) (asker ∷ []))
      by_answer (answer.Accepted vote) =
          omega (arith, as_many slot (answer_body n (answer.Accepted vote)) q.members)
      by_answer (answer.Refused asked standing) =
          omega (arith, as_many slot (answer_body n (answer.Refused asked standing)) (asker ∷ []))

  proposing_plain : (slot : SlotName) (ballot : BallotNumber) (o : Option BagId)
      (old now : VolatileState) → IsPlain q old now (proposing q slot ballot o now)
  proposing_plain slot ballot None old now =
      record { line = None; says = refl; volatile = inl refl; few = omega arith }
  proposing_plain slot ballot (Some bag) old now = record {
    line = None;
    says = refl;
    volatile = inl refl;
    few = omega (
      arith,
      as_many slot (Accept (record { ballot = ballot; bag = bag })) q.members,
    );
  }

  learning_plain : (slot : SlotName) (o : Option BagId) (old now : VolatileState)
      → IsPlain q old now (learning slot o now)
  learning_plain slot None old now =
      record { line = None; says = refl; volatile = inl refl; few = omega arith }
  learning_plain slot (Some bag) old now = record {
    line = Some (site_lines.Known slot bag);
    says = refl;
    volatile = inl refl;
    few = omega arith;
  }

  telling_plain : (slot : SlotName) (asker : ℕ) (o : Option BagId) (old now : VolatileState)
      → IsPlain q old now (telling n slot asker o now)
  telling_plain slot asker None old now =
      record { line = None; says = refl; volatile = inl refl; few = omega arith }
  telling_plain slot asker (Some bag) old now = record {
    line = None;
    says = refl;
    volatile = inl refl;
    few = omega (arith, as_many slot (Known n bag) (asker ∷ []));
  }

  dropped_plain : (old now : VolatileState) → IsPlain q old now (only_says site_lines.Dropped old)
  dropped_plain old now = record {
    line = Some site_lines.Dropped;
    says = refl;
    volatile = inr refl;
    few = omega arith;
  }

  body_plain : (old now : VolatileState) (slot : SlotName) (body : Body)
      → IsPlain q old now (on_body q n records old now slot body)
  unfolding on_body
  body_plain old now slot (Prepare ballot) =
      decided_plain slot ballot.site (prepare_decision slot records ballot) old now
  body_plain old now slot (Accept vote) =
      decided_plain slot vote.ballot.site (accept_decision slot records vote) old now
  body_plain old now slot (Promise from ballot prior) =
      proposing_plain slot ballot
      (ready q (deposit_of slot records) slot (old.current slot) old.heard ballot
      (record { site = from; prior = prior })) old now
  body_plain old now slot (Accepted from vote) =
      learning_plain slot (learned_from q slot records old.heard from vote) old now
  body_plain old now slot (Known from bag) =
      learning_plain slot (learned_of_known slot records bag) old now
  body_plain old now slot (Refused from asked standing) =
      record { line = None; says = refl; volatile = inl refl; few = omega arith }
  body_plain old now slot (Ask from) = telling_plain slot from (known_of slot records) old now
  body_plain old now slot _ = dropped_plain old now

  pub arrival_plain : (volatile : VolatileState) (m : Message)
      → IsPlain q volatile (hears volatile m) (on_arrival q n records volatile (Some m))
  unfolding on_arrival
  arrival_plain volatile m = go (is_member q (body_from m.body))
    where
      go : (t : Bool) → IsPlain q volatile (hears volatile m)
          (cond t (on_body q n records volatile (hears volatile m) m.slot m.body)
          (only_says site_lines.Dropped volatile))
      go true = body_plain volatile (hears volatile m) m.slot m.body
      go false = dropped_plain volatile (hears volatile m)
