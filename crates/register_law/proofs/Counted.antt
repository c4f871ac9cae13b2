-- Every federation keeps a register for each slot: votes can be counted.
use Rattle.std.proofs.Common.{ℕ, ◌≡◌, ◌⊎◌, inl, inr, refl, ap, Bool, true, false, List, [], ◌∷◌}
use Rattle.std.proofs.Common.{Some}
use Rattle.fed_types.specs.declared.vote.Vote.{Vote}
use Rattle.fed_types.specs.Lists.{Has, here, there}
use Rattle.fed_types.specs.Quorums.{QuorumSystem, AreQuorums, IsQuorum, quorums_of}
use Rattle.fed_types.specs.Sites.{Membership, members_of}
use Rattle.fed_types.specs.Slots.{SlotName}
use Rattle.fed_types.specs.Laws.Lists.{has_none, has_one, has_cases, has_filter_map, filter_map_has}
use Rattle.fed_types.specs.Laws.Quorums.{are_quorums}
use Rattle.records.specs.declared.entry.Entry.{Entry}
use Rattle.records.specs.declared.entry.Entry.TheVariants as entry
use Rattle.records.specs.declared.record.Record.{Record}
use Rattle.records.specs.Bounds.{HasEntry}
use Rattle.records.specs.SlotStates.{entries, vote_in}
use Rattle.records.proofs.Bounds.{entry_has, has_entry}
use Rattle.dgram.specs.Heard.{same_vote}
use Rattle.learner.proofs.HeardVotes.{same_vote_decides}
use Rattle.audit.specs.Findings.{votes_in}
use Rattle.serving_law.specs.Federations.{Federation}
use Rattle.serving_law.specs.Reports.{records_of}
use Rattle.register_law.specs.Registers.{Register, Open, Decided, Keeps}

-- ---- votes on record

vote_from : (e : Entry) (vote : Vote) → vote_in e ≡ Some vote → e ≡ entry.Vote vote
vote_from (entry.Vote v) vote is = ap entry.Vote (cc is)
vote_from _ vote is = absurd (cc is)

on_record : (slot : SlotName) (records : List Record) (vote : Vote)
    → Has vote (votes_in slot records) → HasEntry slot records (entry.Vote vote)
on_record slot records vote h =
    let r = has_filter_map vote_in vote (entries slot records) h in
    has_entry slot records (entry.Vote vote) (rw (vote_from r.0 vote r.2) at r.1)

among_votes : (slot : SlotName) (records : List Record) (vote : Vote)
    → HasEntry slot records (entry.Vote vote) → Has vote (votes_in slot records)
among_votes slot records vote h =
    filter_map_has vote_in (entry.Vote vote) vote (entries slot records)
    (entry_has slot records (entry.Vote vote) h) refl

-- ---- what can be decided

-- a thing is so, or it isn't
abbrev Decision : Type 0 → Type 0
Decision P = P ⊎ ¬ P

is_true : (t : Bool) → Decision (t ≡ true)
is_true true = inl refl
is_true false = inr (λ e. absurd (cc e))

-- of one of these it is so
abbrev OneOf : {X : Type 0} → (X → Type 0) → List X → Type 0
OneOf {X} P xs = (x : X) × Has x xs × P x

look_for : {X : Type 0} (P : X → Type 0) → ((x : X) → Decision (P x)) → (xs : List X)
    → Decision (OneOf P xs)
look_for P decide [] = inr (λ s. has_none s.1)
look_for P decide (x ∷ xs) = elim (decide x) [
  | inl is ↦ inl (x, here refl, is)
  | inr denied ↦ elim (look_for P decide xs) [
    | inl s ↦ inl (s.0, there s.1, s.2)
    | inr none ↦ inr (λ s. elim (has_cases (x ∷ []) xs s.1) [
      | inl it ↦ denied (rw (← has_one it) at s.2)
      | inr later ↦ none (s.0, later, s.2)
    ])
  ]
]

-- those of these of which it is so
record Those {X : Type 0} (P : X → Type 0) (xs : List X) : Type 0 where
  those : List X
  are : (x : X) → Has x those → P x
  all : (x : X) → Has x xs → P x → Has x those

one_more : {X : Type 0} (P : X → Type 0) (x : X) (xs : List X) → Decision (P x) → Those P xs
    → Those P (x ∷ xs)
one_more P x xs (inl is) rest = record {
  those = x ∷ rest.those;
  are = λ y h. elim (has_cases (x ∷ []) rest.those h) [
    | inl it ↦ rw (has_one it) at is
    | inr later ↦ rest.are y later
  ];
  all = λ y h so. elim (has_cases (x ∷ []) xs h) [
    | inl it ↦ here (has_one it)
    | inr later ↦ there (rest.all y later so)
  ];
}
one_more P x xs (inr denied) rest = record {
  those = rest.those;
  are = rest.are;
  all = λ y h so. elim (has_cases (x ∷ []) xs h) [
    | inl it ↦ absurd (denied (rw (← has_one it) at so))
    | inr later ↦ rest.all y later so
  ];
}

pick : {X : Type 0} (P : X → Type 0) → ((x : X) → Decision (P x)) → (xs : List X) → Those P xs
pick P decide [] = record { those = []; are = λ x h. absurd (has_none h); all = λ x h so. h }
pick P decide (x ∷ xs) = one_more P x xs (decide x) (pick P decide xs)

module _ {C : Type 0} (members : Membership) (f : Federation C) (slot : SlotName) where
  abbrev q : QuorumSystem
  q = quorums_of members

  laws : AreQuorums q
  laws = are_quorums members

  abbrev votes_at : ℕ → List Vote
  votes_at n = votes_in slot (records_of (f.members n))

  abbrev HasVote : Vote → ℕ → Type 0
  HasVote vote n = HasEntry slot (records_of (f.members n)) (entry.Vote vote)

  has_vote : (vote : Vote) (n : ℕ) → Decision (HasVote vote n)
  has_vote vote n = elim (look_for (λ v. same_vote v vote ≡ true) (λ v. is_true _) (votes_at n)) [
    | inl s ↦ inl (on_record slot _ vote (rw ((same_vote_decides s.0 vote).0 s.2) at s.1))
    | inr none ↦ inr (λ h.
        none (vote, among_votes slot _ vote h, (same_vote_decides vote vote).1 refl))
  ]

  -- the members that have the vote on record
  abbrev holders : (vote : Vote) → Those (HasVote vote) (members_of members)
  holders vote = pick (HasVote vote) (has_vote vote) (members_of members)

  abbrev IsElected : Vote → Type 0
  IsElected vote = IsQuorum q (holders vote).those

  abbrev Elected : ℕ → Type 0
  Elected n = OneOf IsElected (votes_at n)

  elected : Decision (OneOf Elected (members_of members))
  elected =
      look_for Elected (λ n. look_for IsElected (λ vote. is_true _) (votes_at n))
      (members_of members)

  pub some_register : (r : Register) × Keeps members f slot r
  some_register = elim elected [
    | inl s ↦ (
      Decided s.2.0.bag,
      record {
        ballot = s.2.0.ballot;
        voters = (holders s.2.0).those;
        quorum = s.2.2;
        voted = (holders s.2.0).are;
      },
    )
    | inr none ↦ (
      Open,
      λ bag d.
          let vote : Vote = record { ballot = d.ballot; bag = bag } in
          let shared = laws.meet d.voters d.voters d.quorum d.quorum in
          none (
            shared.0,
            shared.1,
            (
              vote,
              among_votes slot _ vote (d.voted shared.0 shared.2),
              laws.grow d.voters (holders vote).those d.quorum
                  (λ n member among. (holders vote).all n member (d.voted n among)),
            ),
          ),
    )
  ]
