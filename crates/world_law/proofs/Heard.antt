-- What was heard, as the laws need it: what was gathered was heard, and the highest vote that
-- promises name.
use Rattle.std.proofs.Common.{◌≡◌, ◌≤◌, ℕ, refl, ap, subst, ◌∙◌, List, [], ◌∷◌, ◌++◌}
use Rattle.std.proofs.Common.{length, drop, Option, None, Some}
use Rattle.fed_types.specs.declared.vote.Vote.{Vote}
use Rattle.fed_types.specs.Ballots.{Below}
use Rattle.fed_types.specs.Lists.{Has}
use Rattle.fed_types.specs.Slots.{SlotName}
use Rattle.fed_types.specs.Laws.Ballots.{same_ballot_decides}
use Rattle.fed_types.specs.Laws.Lists.{has_left, has_drop, has_map, map_has, filter_map_has}
use Rattle.fed_types.specs.Laws.Lists.{has_filter_map}
use Rattle.fed_types.specs.Laws.Slots.{same_slot_decides}
use Rattle.records.specs.Bounds.{AtLeast}
use Rattle.records.specs.SlotStates.{if_some}
use Rattle.records.proofs.Highest.{highest_is}
use Rattle.dgram.specs.declared.body.Body.TheVariants.{Promise}
use Rattle.dgram.specs.declared.message.Message.{Message}
use Rattle.dgram.specs.Heard.{body_in, bodies_of, PromiseFrom, promise_in, promisers, priors}
use Rattle.dgram.proofs.Heard.{has_message, has_promise}
use Rattle.proposer.specs.Proposals.{Current, gathered, highest_prior}
use Rattle.world_law.specs.Laws.{IsNamed, IsHighestPrior}
use Rattle.proposer.specs.VolatileStates.{promise_message}
use Rattle.proposer.proofs.Gathered.{one_of, gathered-push}

-- what was gathered was heard
pub gathered_heard : (slot : SlotName) (c : Current) (heard : List Message) (p : PromiseFrom)
    → Has p (gathered slot c heard)
    → Has (promise_message slot p.site c.ballot p.prior) heard
unfolding gathered
gathered_heard slot c heard p h =
    has_drop c.heard_before heard
    (has_message slot (drop c.heard_before heard) (Promise p.site c.ballot p.prior)
    (has_promise c.ballot (bodies_of slot (drop c.heard_before heard)) p h))

-- who was gathered stays so, whatever is heard besides
pub gathered_stays : (slot : SlotName) (c : Current) (heard : List Message) (m : Message)
    → c.heard_before ≤ length heard → (n : ℕ) → Has n (promisers (gathered slot c heard))
    → Has n (promisers (gathered slot c (heard ++ m ∷ [])))
unfolding promisers
gathered_stays slot c heard m within n h =
    let f = has_map (λ (p : PromiseFrom). p.site) (gathered slot c heard) h in
    let more : Has f.0 (gathered slot c (heard ++ m ∷ [])) =
    rw (gathered-push slot c heard m within)
    (has_left (one_of (if_some (promise_in c.ballot) (body_in slot m))) f.1) in
    rw (← f.2) (map_has (λ (p : PromiseFrom). p.site) more)

-- one promise more for the current ballot
pub gathered_promise : (slot : SlotName) (c : Current) (heard : List Message) (from : ℕ)
    (prior : Option Vote)
    → c.heard_before ≤ length heard
    → gathered slot c (heard ++ promise_message slot from c.ballot prior ∷ [])
    ≡ gathered slot c heard ++ record { site = from; prior = prior } ∷ []
gathered_promise slot c heard from prior within =
    gathered-push slot c heard (promise_message slot from c.ballot prior) within
    ∙ ap (λ (o : Option PromiseFrom). gathered slot c heard ++ one_of o) promise_is
  where
    promise_is : if_some (promise_in c.ballot)
        (body_in slot (promise_message slot from c.ballot prior))
        ≡ Some (record { site = from; prior = prior })
    promise_is = rw ((same_slot_decides slot slot).1 refl)
        (rw ((same_ballot_decides c.ballot c.ballot).1 refl) refl)

-- ---- the highest vote that promises name

-- no named vote is above it, and it is one of them
pub record IsBest (promises : List PromiseFrom) (o : Option Vote) : Type 0 where
  pub bounds : (p : PromiseFrom) (vote : Vote) → Has p promises → p.prior ≡ Some vote
      → AtLeast (λ (v : Vote). v.ballot) o vote
  pub named : (vote : Vote) → o ≡ Some vote → IsNamed promises vote

pub highest_prior_is : (promises : List PromiseFrom)
    → IsBest promises (highest_prior promises)
unfolding highest_prior priors
highest_prior_is promises =
    let best = highest_is (λ (v : Vote). v.ballot) (priors promises) in
    record {
      bounds = λ p vote h e. best.bounds vote
          (filter_map_has (λ (p : PromiseFrom). p.prior) p vote promises h e);
      named = λ vote e.
          let f = has_filter_map (λ (p : PromiseFrom). p.prior) vote promises (best.among vote e) in
          record { promise = f.0; among = f.1; names = f.2 };
    }

same_vote : {x y : Vote} → ◌≡◌ {A = Option Vote} (Some x) (Some y) → x ≡ y
same_vote e = cc

-- the same, in the words of the laws
pub prior_of : (promises : List PromiseFrom) (o : Option Vote) → IsBest promises o
    → IsHighestPrior promises o
prior_of promises None h = λ vote n.
    let a = h.bounds n.promise vote n.among n.names in absurd (cc a.is)
prior_of promises (Some highest) h = record {
  named = h.named highest refl;
  none_higher = λ vote n. below vote (h.bounds n.promise vote n.among n.names);
}
  where
    below : (vote : Vote) → AtLeast (λ (v : Vote). v.ballot) (Some highest) vote
        → ¬ Below highest.ballot vote.ballot
    below vote a = rw (same_vote a.is) a.at_least

pub best_of : (promises : List PromiseFrom) (o : Option Vote) → IsHighestPrior promises o
    → IsBest promises o
best_of promises None h = record {
  bounds = λ p vote among e. absurd (h vote (record { promise = p; among = among; names = e }));
  named = λ vote e. absurd (cc e);
}
best_of promises (Some highest) h = record {
  bounds = λ p vote among e. record {
    top = highest;
    is = refl;
    at_least = h.none_higher vote (record { promise = p; among = among; names = e });
  };
  named = λ vote e. subst (IsNamed promises) (same_vote e) h.named;
}
