-- What well-formed records and messages say is well-formed.
use Rattle.std.proofs.Common.{◌≡◌, Bool, true, false, cond, refl, subst, inl, inr}
use Rattle.std.proofs.Common.{List, [], ◌∷◌, ◌++◌, Option, None, Some}
use Rattle.std.specs.List.{AllByRecursion}
use Rattle.std.specs.Option.{IfSome, option_to_list}
use Rattle.fed_types.specs.declared.bag_id.BagId.{BagId}
use Rattle.fed_types.specs.declared.vote.Vote.{Vote}
use Rattle.fed_types.specs.Ballots.{BallotNumber}
use Rattle.fed_types.specs.Lists.{Has, here, there}
use Rattle.fed_types.specs.Laws.Lists.{has_cases, has_one, has_none}
use Rattle.fed_types.specs.Slots.{SlotName}
use Rattle.fed_types.specs.Values.{IsBallot, IsBag, IsVote}
use Rattle.records.specs.declared.entry.Entry.{Entry}
use Rattle.records.specs.declared.entry.Entry.TheVariants as entry
use Rattle.records.specs.declared.record.Record.{Record}
use Rattle.records.specs.Bounds.{HasEntry}
use Rattle.records.specs.Records.{IsEntry, IsRecord, AreRecords}
use Rattle.records.specs.SlotStates.{ballot_in, promised_of, vote_of, deposit_of, known_of}
use Rattle.records.proofs.Bounds.{promised_among, vote_among, deposit_among, known_among}
use Rattle.dgram.specs.declared.message.Message.{Message}
use Rattle.dgram.specs.Heard.{PromiseFrom}
use Rattle.dgram.specs.Messages.{IsPrior, IsMessage}
use Rattle.proposer.specs.Proposals.{Current, gathered, highest_prior, bag_of}
use Rattle.proposer.specs.VolatileStates.{promise_message}
use Rattle.world_law.specs.WellFormed.{AreMessages}
use Rattle.world_law.proofs.Deeds.{some_same}
use Rattle.world_law.proofs.Heard.{gathered_heard, highest_prior_is}

-- ---- what is so of each element, and of what is there

pub all_has : {X : Type 0} (P : X → Type 0) {x : X} (xs : List X) → AllByRecursion P xs
    → Has x xs → P x
all_has P [] all h = absurd (has_none h)
all_has P (y ∷ ys) all (here e) = subst P e all.0
all_has P (y ∷ ys) all (there h) = all_has P ys all.1 h

-- with one more, if there is one
pub all_with : {X : Type 0} (P : X → Type 0) (xs : List X) (o : Option X) → AllByRecursion P xs
    → IfSome o P → AllByRecursion P (xs ++ option_to_list o)
all_with P [] None all h = tt
all_with P [] (Some x) all h = (h, tt)
all_with P (y ∷ ys) o all h = (all.0, all_with P ys o all.1 h)

pub if_there : {X : Type 0} (P : X → Type 0) (o : Option X) → ((x : X) → o ≡ Some x → P x)
    → IfSome o P
if_there P None each = tt
if_there P (Some x) each = each x refl

-- what is given only if a test passes
pub if_given : {X : Type 0} (P : X → Type 0) (t : Bool) (o : Option X) → IfSome o P
    → IfSome (cond t o None) P
if_given P true o h = h
if_given P false o h = tt

-- a prior vote, if there is one
pub is_prior : (o : Option Vote) → IfSome o IsVote → IsPrior o
is_prior None h = tt
is_prior (Some vote) h = h

prior_vote : (o : Option Vote) (vote : Vote) → IsPrior o → o ≡ Some vote → IsVote vote
prior_vote None vote h e = absurd (cc e)
prior_vote (Some v) vote h e = subst IsVote (some_same e) h

-- ---- what records say of a slot

ballot_of : (e : Entry) (b : BallotNumber) → IsEntry e → ballot_in e ≡ Some b → IsBallot b
ballot_of (entry.Promise c) b h e = subst IsBallot (some_same e) h
ballot_of (entry.Vote vote) b h e = subst IsBallot (some_same e) h.0
ballot_of e b h f = absurd (cc f)

module _ (slot : SlotName) (records : List Record) (all : AreRecords records) where
  entry_is : (e : Entry) → HasEntry slot records e → IsEntry e
  entry_is e h = (all_has IsRecord records all h).1

  pub promised_is : IfSome (promised_of slot records) IsBallot
  promised_is =
      if_there IsBallot (promised_of slot records)
      (λ b e. let f = promised_among slot records b e in ballot_of f.0 b (entry_is f.0 f.1) f.2)

  pub vote_is : IfSome (vote_of slot records) IsVote
  vote_is =
      if_there IsVote (vote_of slot records)
      (λ vote e. entry_is (entry.Vote vote) (vote_among slot records vote e))

  pub deposit_is : IfSome (deposit_of slot records) IsBag
  deposit_is =
      if_there IsBag (deposit_of slot records)
      (λ bag e. entry_is (entry.Deposit bag) (deposit_among slot records bag e))

  pub known_is : IfSome (known_of slot records) IsBag
  known_is =
      if_there IsBag (known_of slot records)
      (λ bag e. entry_is (entry.Known bag) (known_among slot records bag e))

-- ---- what was heard of a slot

module _ (slot : SlotName) (c : Current) (heard : List Message) (all : AreMessages heard) where
  -- the prior vote of a promise that was gathered
  gathered_prior : (p : PromiseFrom) → Has p (gathered slot c heard) → IsPrior p.prior
  gathered_prior p h =
      let m : IsMessage (promise_message slot p.site c.ballot p.prior) =
      all_has IsMessage heard all (gathered_heard slot c heard p h) in
      m.1.2

  -- the bag that follows from the promises
  pub followed_is : (p : PromiseFrom) → IsPrior p.prior → (own : Option BagId) → IfSome own IsBag
      → IfSome (bag_of (highest_prior (gathered slot c heard ++ p ∷ [])) own) IsBag
  followed_is p prior own is_own = go (highest_prior ps) refl
    where
      ps : List PromiseFrom
      ps = gathered slot c heard ++ p ∷ []

      each : (r : PromiseFrom) → Has r ps → IsPrior r.prior
      each r h = elim (has_cases (gathered slot c heard) (p ∷ []) h) [
        | inl old ↦ gathered_prior r old
        | inr new ↦ subst (λ (y : PromiseFrom). IsPrior y.prior) (has_one new) prior
      ]

      go : (o : Option Vote) → highest_prior ps ≡ o → IfSome (bag_of o own) IsBag
      go None e = is_own
      go (Some vote) e =
          let f = (highest_prior_is ps).named vote e in
          (prior_vote f.promise.prior vote (each f.promise f.among) f.names).1
