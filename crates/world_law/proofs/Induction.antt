-- What is chosen in a ballot is the bag of every later proposal; and where bags come from.
use Rattle.std.proofs.Common.{ℕ, ◌≡◌, ◌⊎◌, inl, inr, refl, sym, subst, ◌∙◌, List, Option, None}
use Rattle.std.proofs.Common.{Some}
use Rattle.fed_types.specs.declared.bag_id.BagId.{BagId}
use Rattle.fed_types.specs.declared.vote.Vote.{Vote}
use Rattle.fed_types.specs.Ballots.{BallotNumber, Below}
use Rattle.fed_types.specs.Lists.{Has}
use Rattle.fed_types.specs.Quorums.{QuorumSystem, AreQuorums}
use Rattle.fed_types.specs.Slots.{SlotName}
use Rattle.fed_types.specs.Laws.Ballots.{Below-cases}
use Rattle.fed_types.specs.Laws.Lists.{has_map}
use Rattle.records.specs.declared.entry.Entry.TheVariants as entry
use Rattle.dgram.specs.declared.body.Body.TheVariants.{Promise, Accept}
use Rattle.dgram.specs.Heard.{PromiseFrom, promisers}
use Rattle.world_law.specs.Laws.{OnRecord, WasSent, IsChosenBy, IsChosen, IsHighestBelow, IsPrior}
use Rattle.world_law.specs.Laws.{IsBacked, SatisfiesP2c}
use Rattle.world_law.specs.Networks.{Network}
use Rattle.world_law.proofs.Order.{at_most_trans, at_most_cases, ballot_induction}
use Rattle.world_law.proofs.Heard.{IsBest, best_of}
use Rattle.world_law.proofs.Kept.{vote_for, Promises, Proposes, Kept}

-- ---- what a sent message says, by its kind

pub promise_says : {q : QuorumSystem} {w : Network} {n : ℕ} {slot : SlotName} {b : BallotNumber}
    {prior : Option Vote}
    → Kept q w → WasSent w slot (Promise n b prior) → Promises w n slot b prior
promise_says inv s = inv.sent _ s.is_sent

pub accept_says : {q : QuorumSystem} {w : Network} {slot : SlotName} {vote : Vote}
    → Kept q w → WasSent w slot (Accept vote) → Proposes q w slot vote
accept_says inv s = inv.sent _ s.is_sent

pub vote_asked : {q : QuorumSystem} {w : Network} {n : ℕ} {slot : SlotName} {vote : Vote}
    → Kept q w → OnRecord w n slot (entry.Vote vote) → WasSent w slot (Accept vote)
vote_asked inv k = inv.records _ _ _ k

-- the member of both quorums: it promised c, and has cast the vote
record Shared
    (w : Network) (slot : SlotName) (vote : Vote) (c : BallotNumber) (ps : List PromiseFrom)
    : Type 0 where
  p : PromiseFrom
  among : Has p ps
  promises : Promises w p.site slot c p.prior
  voted : OnRecord w p.site slot (entry.Vote vote)

promiser_of : (n : ℕ) (ps : List PromiseFrom) → Has n (promisers ps)
    → (p : PromiseFrom) × Has p ps × (p.site ≡ n)
unfolding promisers
promiser_of n ps h = has_map (λ (p : PromiseFrom). p.site) ps h

shared : {q : QuorumSystem} {w : Network} {slot : SlotName} {vote later : Vote} → AreQuorums q
    → Kept q w → IsChosenBy q w slot vote → (k : IsBacked q w slot later)
    → Shared w slot vote later.ballot k.promises
shared {q} {w} {slot} {vote} {later} laws inv chosen backed =
    let both = laws.meet _ _ backed.quorum chosen.quorum in
    let s = promiser_of both.0 backed.promises both.2 in
    record {
      p = s.0;
      among = s.1;
      promises = promise_says inv (backed.sent s.0 s.1);
      voted = rw s.2 (chosen.voted both.0 both.3);
    }

-- a site that promised c has this vote as its highest below c
record Named (w : Network) (slot : SlotName) (c : BallotNumber) (h : Vote) : Type 0 where
  site : ℕ
  says : IsHighestBelow w site slot c h

-- the highest vote that the promises of c name is in b or later
record Top (w : Network) (slot : SlotName) (b c : BallotNumber) (o : Option Vote) : Type 0 where
  top : Vote
  is : o ≡ Some top
  named : Named w slot c top
  later : ¬ Below top.ballot b

top_of : {q : QuorumSystem} {w : Network} {slot : SlotName} {vote later : Vote} → Kept q w
    → Below vote.ballot later.ballot → (k : IsBacked q w slot later)
    → Shared w slot vote later.ballot k.promises
    → Top w slot vote.ballot later.ballot k.prior
top_of {q} {w} {slot} {vote} {later} inv lower k s = at_prior s.p.prior refl s.promises.prior_is
  where
    at_top : (x : Vote) → ¬ Below x.ballot vote.ballot → (o : Option Vote)
        → IsBest k.promises o → (p : PromiseFrom) → Has p k.promises
        → p.prior ≡ Some x → Top w slot vote.ballot later.ballot o
    at_top x above o h p among e =
        let r = h.bounds p x among e in
        let t = h.named r.top r.is in
        let says : IsPrior w t.promise.site slot later.ballot (Some r.top) =
        rw t.names at (promise_says inv (k.sent t.promise t.among)).prior_is in
        record {
          top = r.top;
          is = r.is;
          named = record { site = t.promise.site; says = says };
          later = at_most_trans _ _ _ above r.at_least;
        }

    at_prior : (o : Option Vote) → s.p.prior ≡ o → IsPrior w s.p.site slot later.ballot o
        → Top w slot vote.ballot later.ballot k.prior
    at_prior None e says = absurd (says vote s.voted lower)
    at_prior (Some x) e says =
        at_top x (says.none_higher vote s.voted lower) k.prior
        (best_of k.promises k.prior k.highest) s.p s.among e

-- what was chosen was asked for
pub asked_in : {q : QuorumSystem} {w : Network} {slot : SlotName} {vote : Vote} → AreQuorums q
    → Kept q w → IsChosenBy q w slot vote → WasSent w slot (Accept vote)
asked_in laws inv chosen =
    let both = laws.meet _ _ chosen.quorum chosen.quorum in
    vote_asked inv (chosen.voted both.0 both.2)

-- every proposal of ballot c, if that is a later one, is for the vote's bag
abbrev Carried : Network → SlotName → Vote → BallotNumber → Type 0
Carried w slot vote c =
    Below vote.ballot c → (u : BagId) → WasSent w slot (Accept (vote_for c u)) → u ≡ vote.bag

carried_step : (q : QuorumSystem) (w : Network) (slot : SlotName) (vote : Vote) → AreQuorums q
    → Kept q w → IsChosenBy q w slot vote → (c : BallotNumber)
    → ((d : BallotNumber) → Below d c → Carried w slot vote d) → Carried w slot vote c
carried_step q w slot vote laws inv chosen c before lower u asked =
    from_top (top_of inv lower backed (shared laws inv chosen backed)) backed.follows
  where
    backed : IsBacked q w slot (vote_for c u)
    backed = (accept_says inv asked).backed

    at_vote : (h : Vote) → Named w slot c h → ¬ Below h.ballot vote.ballot → h.bag ≡ vote.bag
    at_vote h named later =
        let again : WasSent w slot (Accept h) = vote_asked inv named.says.voted in
        elim (at_most_cases vote.ballot h.ballot later) [
          | inl e ↦
              inv.one slot h.ballot h.bag vote.bag again
              (rw (← e) (asked_in laws inv chosen))
          | inr k ↦ before h.ballot named.says.lower k h.bag again
        ]

    from_top : Top w slot vote.ballot c backed.prior
        → SatisfiesP2c w c.site slot backed.prior u → u ≡ vote.bag
    from_top t f =
        let e : t.top.bag ≡ u = rw t.is at f in
        sym e ∙ at_vote t.top t.named t.later

-- the induction over ballots
pub later_carried : (q : QuorumSystem) (w : Network) (slot : SlotName) (chosen later : Vote)
    → AreQuorums q → Kept q w → IsChosenBy q w slot chosen → WasSent w slot (Accept later)
    → Below chosen.ballot later.ballot → later.bag ≡ chosen.bag
later_carried q w slot chosen later laws inv by asked lower =
    ballot_induction (Carried w slot chosen) (carried_step q w slot chosen laws inv by)
    later.ballot lower later.bag asked

pub chosen_once : (q : QuorumSystem) (w : Network) → AreQuorums q → Kept q w
    → (slot : SlotName) (u v : BagId) → IsChosen q w slot u → IsChosen q w slot v → u ≡ v
chosen_once q w laws inv slot u v c d = go (Below-cases c.ballot d.ballot)
  where
    first : WasSent w slot (Accept (vote_for c.ballot u))
    first = asked_in laws inv c.chosen

    second : WasSent w slot (Accept (vote_for d.ballot v))
    second = asked_in laws inv d.chosen

    go : Below c.ballot d.ballot ⊎ ((c.ballot ≡ d.ballot) ⊎ Below d.ballot c.ballot) → u ≡ v
    go (inl l) =
        sym (later_carried q w slot (vote_for c.ballot u) (vote_for d.ballot v) laws inv c.chosen
        second l)
    go (inr (inl e)) =
        inv.one slot d.ballot u v
        (rw (← e) first) second
    go (inr (inr l)) =
        later_carried q w slot (vote_for d.ballot v) (vote_for c.ballot u) laws inv d.chosen
        first l

-- ---- where bags come from: from what is so of each bag that is on record as a deposit

module _ (q : QuorumSystem) (laws : AreQuorums q) (w : Network) (inv : Kept q w)
    (P : SlotName → BagId → Type 0)
    (deposits : (n : ℕ) (slot : SlotName) (bag : BagId) → OnRecord w n slot (entry.Deposit bag)
    → P slot bag) where
  abbrev Comes : SlotName → BallotNumber → Type 0
  Comes slot b = (bag : BagId) → WasSent w slot (Accept (vote_for b bag)) → P slot bag

  from_below : (slot : SlotName) (b : BallotNumber)
      → ((c : BallotNumber) → Below c b → Comes slot c) → Comes slot b
  from_below slot b before bag a = go backed.prior refl backed.follows
    where
      backed : IsBacked q w slot (vote_for b bag)
      backed = (accept_says inv a).backed

      go : (o : Option Vote) → backed.prior ≡ o → SatisfiesP2c w b.site slot o bag
          → P slot bag
      go None e f = deposits b.site slot bag f
      go (Some u) e f =
          let t = (best_of backed.promises backed.prior backed.highest).named u e in
          let says : IsPrior w t.promise.site slot b (Some u) =
          rw t.names at (promise_says inv (backed.sent t.promise t.among)).prior_is in
          subst (P slot) f (before u.ballot says.lower u.bag (vote_asked inv says.voted))

  pub proposed_came : (slot : SlotName) (vote : Vote) → WasSent w slot (Accept vote)
      → P slot vote.bag
  proposed_came slot vote s =
      ballot_induction (Comes slot) (from_below slot) vote.ballot vote.bag s

  pub chosen_came : (slot : SlotName) (bag : BagId) → IsChosen q w slot bag → P slot bag
  chosen_came slot bag c =
      proposed_came slot (vote_for c.ballot bag) (asked_in laws inv c.chosen)
