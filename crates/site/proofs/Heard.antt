-- What the tables represent with one message more.
use Rattle.std.proofs.Common.{◌≡◌, ℕ, Bool, true, false, cond, List, [], ◌∷◌, ◌++◌}
use Rattle.std.proofs.Common.{Option, Some, None, refl, sym, ap, subst, ◌∙◌, append-nil}
use Rattle.std.specs.List.{cons_option, filter_map}
use Rattle.fed_types.specs.declared.bag_id.BagId.{BagId}
use Rattle.fed_types.specs.declared.vote.Vote.{Vote}
use Rattle.fed_types.specs.Ballots.{BallotNumber}
use Rattle.fed_types.specs.Lists.{is_in}
use Rattle.fed_types.specs.Slots.{SlotName, same_slot}
use Rattle.records.specs.declared.record.Record.{Record}
use Rattle.records.specs.SlotStates.{known_of}
use Rattle.dgram.specs.declared.body.Body.TheVariants.{Accepted}
use Rattle.dgram.specs.declared.message.Message.{Message}
use Rattle.dgram.specs.Heard.{bodies_of, promise_in, refused_round, voter_in, voters_for}
use Rattle.dgram.proofs.Heard.{bodies_of-append, voters_for-append}
use Rattle.slot_table.specs.Rows.{Rows}
use Rattle.proposer.specs.declared.ballot_state.Promise.{Promise as Waiting}
use Rattle.proposer.specs.BallotStates.{BallotState}
use Rattle.proposer.specs.declared.row.Row.{Row as proposer_row}
use Rattle.proposer.specs.Rows as proposers
use Rattle.proposer.specs.VolatileStates.{VolatileState, hears, promise_message}
use Rattle.proposer.specs.UnderWay.{UnderWay, heard_after}
use Rattle.proposer.specs.UnderWay.{heard_if}
use Rattle.proposer.proofs.Stands.{heard_stands}
use Rattle.learner.specs.declared.row.Row.{Row as learner_row}
use Rattle.learner.specs.LearnerStates as learners
use Rattle.learner.proofs.HeardVotes.{heard_known}
use Rattle.site.specs.Contents.{Contents, Represents}

-- ---- the learner

-- a message that is no vote names no voter
no_voter : (m : Message) → ((v : Vote) → voter_in v m.body ≡ None) → (s : SlotName) (v : Vote)
    → voters_for v (bodies_of s (m ∷ [])) ≡ []
unfolding voters_for bodies_of
no_voter m no_vote s v = go (same_slot m.slot s)
  where
    go : (t : Bool) → filter_map (voter_in v) (cons_option (cond t (Some m.body) None) []) ≡ []
    go true = ap (λ (o : Option ℕ). cons_option o []) (no_vote v)
    go false = refl

module _ (rows : Rows learner_row) (records : List Record) (heard : List Message)
    (stands : learners.Represents rows records heard) where
  -- so it changes nothing of what the learner represents
  pub learner_hears : (m : Message) → ((v : Vote) → voter_in v m.body ≡ None)
      → learners.Represents rows records (heard ++ m ∷ [])
  learner_hears m no_vote = record {
    known = stands.known;
    votes = λ s none v n. stands.votes s none v n
        ∙ ap (λ (xs : List ℕ). is_in xs n) (sym (same s v));
  }
    where
      same : (s : SlotName) (v : Vote)
          → voters_for v (bodies_of s (heard ++ m ∷ [])) ≡ voters_for v (bodies_of s heard)
      same s v =
          ap (voters_for v) (bodies_of-append s heard (m ∷ []))
          ∙ voters_for-append v (bodies_of s heard) (bodies_of s (m ∷ []))
          ∙ ap (λ (xs : List ℕ). voters_for v (bodies_of s heard) ++ xs) (no_voter m no_vote s v)
          ∙ append-nil (voters_for v (bodies_of s heard))

-- a promise, which is heard unless it waits
pub learner_hears_promise : (rows : Rows learner_row) (records : List Record)
    (volatile : VolatileState)
    → learners.Represents rows records volatile.heard → (given : Option BagId)
    (slot : SlotName) (from : ℕ) (ballot : BallotNumber) (prior : Option Vote)
    → learners.Represents rows records
    (heard_after given volatile (promise_message slot from ballot prior)).heard
learner_hears_promise rows records volatile stands None slot from ballot prior =
    learner_hears rows records volatile.heard stands (promise_message slot from ballot prior)
    (λ v. refl)
learner_hears_promise rows records volatile stands (Some bag) slot from ballot prior = stands

-- what waits in a proposer is a promise
pub learner_hears_waiting : (rows : Rows learner_row) (proposing : Rows proposer_row)
    (records : List Record) (volatile : VolatileState) (under : UnderWay)
    → proposers.Represents proposing records volatile under
    → learners.Represents rows records volatile.heard → (slot : SlotName)
    → learners.Represents rows records (heard_if volatile (under.waiting slot)).heard
learner_hears_waiting rows proposing records volatile under proposes stands slot =
    go (proposers.current_in (proposers.row_of proposing slot)) (proposes slot).waiting
  where
    waits : (ballot : BallotNumber) (p : Option Waiting)
        → proposers.waiting_as slot ballot p ≡ under.waiting slot
        → learners.Represents rows records (heard_if volatile (under.waiting slot)).heard
    waits ballot None e =
        subst (λ (m : Option Message). learners.Represents rows records (heard_if volatile m).heard)
        e stands
    waits ballot (Some p) e =
        subst (λ (m : Option Message). learners.Represents rows records (heard_if volatile m).heard)
        e
        (learner_hears rows records volatile.heard stands
        (promise_message slot p.site ballot p.prior) (λ v. refl))

    go : (o : Option BallotState) → proposers.waiting_in slot o ≡ under.waiting slot
        → learners.Represents rows records (heard_if volatile (under.waiting slot)).heard
    go None e =
        subst (λ (m : Option Message). learners.Represents rows records (heard_if volatile m).heard)
        e stands
    go (Some round) e = waits round.ballot round.waiting e

-- ---- the tables

module _ (t : Contents) (records : List Record) (volatile : VolatileState) (under : UnderWay)
    (stands : Represents t records volatile under) where
  -- a message that is no promise, no refusal and no vote changes nothing of what they represent
  pub hears_other : (m : Message) → ((b : BallotNumber) → promise_in b m.body ≡ None)
      → refused_round m.body ≡ None → ((v : Vote) → voter_in v m.body ≡ None)
      → Represents t records (hears volatile m) under
  hears_other m no_promise no_refusal no_vote = record {
    proposer = heard_stands t.proposer.rows m records volatile under no_refusal no_promise
        stands.proposer;
    learner = learner_hears t.learner.rows records volatile.heard stands.learner m no_vote;
  }

  -- nor does a vote of a slot whose bag is known
  pub hears_known : (slot : SlotName) (from : ℕ) (vote : Vote) (bag : BagId)
      → known_of slot records ≡ Some bag
      → Represents t records (hears volatile (record { slot = slot; body = Accepted from vote }))
      under
  hears_known slot from vote bag known = record {
    proposer = heard_stands t.proposer.rows (record { slot = slot; body = Accepted from vote })
        records volatile under refl (λ b. refl) stands.proposer;
    learner = heard_known t.learner.rows records volatile.heard slot from vote stands.learner bag
        (stands.learner.known slot ∙ known);
  }
