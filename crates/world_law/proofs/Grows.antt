-- What a network says stays so as records and sent datagrams are added.
use Rattle.std.proofs.Common.{ℕ, ◌≡◌, ◌⊎◌, inl, inr, Option, None, Some}
use Rattle.fed_types.specs.declared.bag_id.BagId.{BagId}
use Rattle.fed_types.specs.declared.vote.Vote.{Vote}
use Rattle.fed_types.specs.Ballots.{BallotNumber, Below}
use Rattle.fed_types.specs.Lists.{Has}
use Rattle.fed_types.specs.Quorums.{QuorumSystem, IsQuorum}
use Rattle.fed_types.specs.Slots.{SlotName}
use Rattle.records.specs.declared.entry.Entry.{Entry}
use Rattle.records.specs.declared.entry.Entry.TheVariants as entry
use Rattle.dgram.specs.declared.body.Body.{Body}
use Rattle.dgram.specs.declared.body.Body.TheVariants.{Promise, Accept, Accepted, Known}
use Rattle.dgram.specs.Heard.{promisers}
use Rattle.proposer.specs.Proposals.{Current, gathered}
use Rattle.proposer.specs.VolatileStates.{VolatileState}
use Rattle.site.specs.Effects.{Send}
use Rattle.world_law.specs.Laws.{OnRecord, WasSent, IsChosenBy, IsChosen, IsPrior, IsBacked}
use Rattle.world_law.specs.Laws.{SatisfiesP2c}
use Rattle.world_law.specs.Networks.{Network}
use Rattle.world_law.proofs.Kept.{vote_for, Promises, Proposes, Says, Means, Remembers}

-- Records and datagrams are added. A vote is old, or in no ballot below one that was promised.
pub record Grows (w x : Network) : Type 0 where
  pub sent : (d : Send) → Has d w.sent → Has d x.sent
  pub kept : (n : ℕ) (slot : SlotName) (e : Entry) → OnRecord w n slot e → OnRecord x n slot e
  pub votes : (n : ℕ) (slot : SlotName) (vote : Vote) (b : BallotNumber)
      → OnRecord x n slot (entry.Vote vote) → OnRecord w n slot (entry.Promise b)
      → OnRecord w n slot (entry.Vote vote) ⊎ (¬ Below vote.ballot b)

-- nothing was added
pub grows_itself : {w : Network} → Grows w w
grows_itself = record {
  sent = λ d h. h;
  kept = λ n slot e h. h;
  votes = λ n slot vote b h promised. inl h;
}

module _ {w x : Network} (g : Grows w x) where
  pub sent_grows : {slot : SlotName} {body : Body} → WasSent w slot body → WasSent x slot body
  sent_grows s = record { to = s.to; is_sent = g.sent _ s.is_sent }

  pub chosen_by_grows : {q : QuorumSystem} {slot : SlotName} {vote : Vote}
      → IsChosenBy q w slot vote → IsChosenBy q x slot vote
  chosen_by_grows c = record {
    voters = c.voters;
    quorum = c.quorum;
    voted = λ n h. g.kept n _ _ (c.voted n h);
  }

  pub chosen_grows : {q : QuorumSystem} {slot : SlotName} {bag : BagId}
      → IsChosen q w slot bag → IsChosen q x slot bag
  chosen_grows c = record { ballot = c.ballot; chosen = chosen_by_grows c.chosen }

  follows_grows : (n : ℕ) (slot : SlotName) (o : Option Vote) (bag : BagId)
      → SatisfiesP2c w n slot o bag → SatisfiesP2c x n slot o bag
  follows_grows n slot None bag f = g.kept n slot (entry.Deposit bag) f
  follows_grows n slot (Some prior) bag f = f

  backed_grows : {q : QuorumSystem} {slot : SlotName} {vote : Vote}
      → IsBacked q w slot vote → IsBacked q x slot vote
  backed_grows {q} {slot} {vote} k = record {
    promises = k.promises;
    quorum = k.quorum;
    members = k.members;
    sent = λ p h. sent_grows (k.sent p h);
    prior = k.prior;
    highest = k.highest;
    follows = follows_grows vote.ballot.site slot k.prior vote.bag k.follows;
  }

  prior_grows : (n : ℕ) (slot : SlotName) (b : BallotNumber) (o : Option Vote)
      → OnRecord w n slot (entry.Promise b) → IsPrior w n slot b o → IsPrior x n slot b o
  prior_grows n slot b None promised p = λ vote k. elim (g.votes n slot vote b k promised) [
    | inl old ↦ p vote old
    | inr above ↦ above
  ]
  prior_grows n slot b (Some y) promised p = record {
    voted = g.kept n slot _ p.voted;
    lower = p.lower;
    none_higher = λ vote k lower. elim (g.votes n slot vote b k promised) [
      | inl old ↦ p.none_higher vote old lower
      | inr above ↦ absurd (above lower)
    ];
  }

  promises_grows : {n : ℕ} {slot : SlotName} {b : BallotNumber} {prior : Option Vote}
      → Promises w n slot b prior → Promises x n slot b prior
  promises_grows {n} {slot} {b} {prior} p = record {
    kept = g.kept n slot _ p.kept;
    prior_is = prior_grows n slot b prior p.kept p.prior_is;
  }

  proposes_grows : {q : QuorumSystem} {slot : SlotName} {vote : Vote}
      → Proposes q w slot vote → Proposes q x slot vote
  proposes_grows a = record { issued = g.kept _ _ _ a.issued; backed = backed_grows a.backed }

  pub says_grows : (q : QuorumSystem) (slot : SlotName) (body : Body)
      → Says q w slot body → Says q x slot body
  says_grows q slot (Promise n b prior) s = promises_grows s
  says_grows q slot (Accept vote) s = proposes_grows s
  says_grows q slot (Accepted n vote) s = g.kept n slot _ s
  says_grows q slot (Known n bag) s = chosen_grows s
  says_grows q slot body s = s

  pub means_grows : (q : QuorumSystem) (slot : SlotName) (e : Entry)
      → Means q w slot e → Means q x slot e
  means_grows q slot (entry.Vote vote) s = sent_grows s
  means_grows q slot (entry.Known bag) s = chosen_grows s
  means_grows q slot e s = s

  -- what a site remembers stays so while no new proposal is in a ballot that is current there, but
  -- one of a quorum
  pub remembers_grows : (q : QuorumSystem) (n : ℕ) (volatile : VolatileState)
      → ((slot : SlotName) (c : Current) (bag : BagId) → volatile.current slot ≡ Some c
      → c.ballot.site ≡ n → WasSent x slot (Accept (vote_for c.ballot bag))
      → WasSent w slot (Accept (vote_for c.ballot bag))
      ⊎ IsQuorum q (promisers (gathered slot c volatile.heard)))
      → Remembers q w n volatile → Remembers q x n volatile
  remembers_grows q n volatile cases r = record {
    heard = λ m h. sent_grows (r.heard m h);
    members = r.members;
    current = λ slot c e.
        let old = r.current slot c e in
        record {
          own = old.own;
          issued = g.kept n slot _ old.issued;
          within = old.within;
          spent = λ bag s. elim (cases slot c bag e old.own s) [
            | inl t ↦ old.spent bag t
            | inr quorum ↦ quorum
          ];
        };
  }
