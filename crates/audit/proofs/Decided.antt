-- The members that have a vote on record are counted.
use Rattle.std.proofs.Common.{◌≡◌, Bool, true, false, cond, inl, inr, refl, sym, ap}
use Rattle.std.proofs.Common.{◌∙◌, List, [], ◌∷◌, Some, filter}
use Rattle.std.proofs.lemmas.Bool.{cases_Bool, or_cases, or_left, or_right, false≢true}
use Rattle.std.specs.List.{list_any}
use Rattle.fed_types.specs.declared.vote.Vote.{Vote}
use Rattle.fed_types.specs.Lists.{Has, here, there}
use Rattle.fed_types.specs.Quorums.{QuorumSystem, AreQuorums, IsQuorum}
use Rattle.fed_types.specs.Slots.{SlotName}
use Rattle.fed_types.specs.Laws.Lists.{has_none, has_filter_map}
use Rattle.fed_types.specs.Laws.Lists.{filter_map_has}
use Rattle.records.specs.declared.entry.Entry.{Entry}
use Rattle.records.specs.declared.entry.Entry.TheVariants as entry
use Rattle.records.specs.declared.record.Record.{Record}
use Rattle.records.specs.Bounds.{HasEntry}
use Rattle.records.specs.SlotStates.{entries, vote_in}
use Rattle.records.proofs.Bounds.{entry_has, has_entry}
use Rattle.dgram.specs.Heard.{same_vote}
use Rattle.learner.proofs.HeardVotes.{same_vote_decides}
use Rattle.world_law.specs.Laws.{IsChosenBy}
use Rattle.audit.specs.Evidence.{SiteRecord, records_at, network_of}
use Rattle.audit.specs.Findings.{votes_in, has_vote, members_with}

-- ---- lists

-- an element that passes a test
has_filter : {X : Type 0} (p : X → Bool) (x : X) (xs : List X) → Has x (filter p xs)
    → Has x xs × (p x ≡ true)
has_filter p x [] h = absurd (has_none h)
has_filter {X} p x (y ∷ ys) h = go (p y) refl (λ k. has_filter p x ys k) h
  where
    go : (t : Bool) → p y ≡ t → (Has x (filter p ys) → Has x ys × (p x ≡ true))
        → Has x (cond t (y ∷ filter p ys) (filter p ys))
        → Has x (y ∷ ys) × (p x ≡ true)
    go true e rest (here is) = (here is, ap p (sym is) ∙ e)
    go true e rest (there k) = (there (rest k).0, (rest k).1)
    go false e rest k = (there (rest k).0, (rest k).1)

filter_has : {X : Type 0} (p : X → Bool) (x : X) (xs : List X) → Has x xs → p x ≡ true
    → Has x (filter p xs)
filter_has p x [] h e = absurd (has_none h)
filter_has p x (y ∷ ys) (here is) e = rw (ap p is ∙ e) (here is)
filter_has p x (y ∷ ys) (there h) e = elim (cases_Bool (p y)) [
  | inl t ↦ rw t (there (filter_has p x ys h e))
  | inr f ↦ rw f (filter_has p x ys h e)
]

-- one that a test finds
any_has : (vote : Vote) (votes : List Vote) → list_any (same_vote vote) votes ≡ true
    → Has vote votes
any_has vote [] e = absurd (false≢true e)
any_has vote (v ∷ votes) e =
    elim (or_cases (same_vote vote v) (list_any (same_vote vote) votes) e) [
      | inl p ↦ here (sym ((same_vote_decides vote v).0 p))
      | inr p ↦ there (any_has vote votes p)
    ]

has_any : (vote : Vote) (votes : List Vote) → Has vote votes
    → list_any (same_vote vote) votes ≡ true
has_any vote [] h = absurd (has_none h)
has_any vote (v ∷ votes) (here is) =
    or_left (same_vote vote v) (list_any (same_vote vote) votes)
    ((same_vote_decides vote v).1 (sym is))
has_any vote (v ∷ votes) (there h) =
    or_right (same_vote vote v) (list_any (same_vote vote) votes) (has_any vote votes h)

-- ---- records

vote_from : (e : Entry) (vote : Vote) → vote_in e ≡ Some vote → e ≡ entry.Vote vote
vote_from (entry.Vote v) vote is = ap entry.Vote (cc is)
vote_from _ vote is = absurd (cc is)

-- a vote is among those of the records exactly where it is on record
votes_on_record : (slot : SlotName) (records : List Record) (vote : Vote)
    → Has vote (votes_in slot records) → HasEntry slot records (entry.Vote vote)
votes_on_record slot records vote h =
    let r = has_filter_map vote_in vote (entries slot records) h in
    has_entry slot records (entry.Vote vote) (rw (vote_from r.0 vote r.2) at r.1)

record_votes : (slot : SlotName) (records : List Record) (vote : Vote)
    → HasEntry slot records (entry.Vote vote) → Has vote (votes_in slot records)
record_votes slot records vote h =
    filter_map_has vote_in (entry.Vote vote) vote (entries slot records)
    (entry_has slot records (entry.Vote vote) h) refl

-- ---- what is chosen

module _ (q : QuorumSystem) (laws : AreQuorums q) (given : List SiteRecord) (slot : SlotName)
    (vote : Vote) where
  -- the test passes exactly where the laws say that it is
  pub chosen_by : IsQuorum q (members_with q given slot vote)
      → IsChosenBy q (network_of given) slot vote
  unfolding network_of
  chosen_by quorum = record {
    voters = members_with q given slot vote;
    quorum = quorum;
    voted = λ n among.
        let r = has_filter (has_vote given slot vote) n q.members among in
        votes_on_record slot (records_at given n) vote
        (any_has vote (votes_in slot (records_at given n)) r.1);
  }

  pub by_chosen : IsChosenBy q (network_of given) slot vote
      → IsQuorum q (members_with q given slot vote)
  unfolding network_of
  by_chosen c =
      laws.grow c.voters (members_with q given slot vote) c.quorum
      (λ n member among. filter_has (has_vote given slot vote) n q.members member
      (has_any vote (votes_in slot (records_at given n))
      (record_votes slot (records_at given n) vote (c.voted n among))))
