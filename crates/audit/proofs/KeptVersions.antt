-- What one more record makes of what is kept of each version.
use Rattle.std.proofs.Common.{◌≡◌, ◌⊎◌, ℕ, Bool, true, false, cond, inl, inr, refl, ap, List}
use Rattle.std.proofs.Common.{Option, Some, None}
use Rattle.std.proofs.lemmas.Bool.{cases_Bool}
use Rattle.fed_types.specs.declared.bag_id.BagId.{BagId}
use Rattle.fed_types.specs.declared.vote.Vote.{Vote}
use Rattle.fed_types.specs.Quorums.{QuorumSystem, AreQuorums}
use Rattle.fed_types.specs.Slots.{SlotName, same_slot}
use Rattle.fed_types.specs.Voters.{with_voter}
use Rattle.fed_types.specs.Laws.Lists.{is_in_decides}
use Rattle.fed_types.specs.Laws.Slots.{same_slot_decides}
use Rattle.records.specs.declared.entry.Entry.{Entry}
use Rattle.records.specs.declared.entry.Entry.TheVariants as entry
use Rattle.dgram.specs.Heard.{same_vote}
use Rattle.learner.proofs.HeardVotes.{same_vote_decides}
use Rattle.slot_table.specs.Rows.{Rows, row_of, IsWith}
use Rattle.audit.specs.declared.row.Row.{Row}
use Rattle.audit.specs.Evidence.{SiteRecord, network_of}
use Rattle.audit.specs.Laws.{IsNamed}
use Rattle.audit.specs.inner.Casts.{Casts, cast_of, voters_in, IsCounted}
use Rattle.audit.specs.inner.Rows.{empty_row, named, chosen_in}
use Rattle.audit.specs.Tables.{ChosenBy, AreVoters, IsRowFor, AreRows}
use Rattle.audit.proofs.CountedVotes.{voters_are, vote_counted}
use Rattle.audit.proofs.GivenRecords.{more, old_or_new, keeps, newest}
use Rattle.audit.proofs.NamedBags.{row_same, row_named, row_chosen}

-- the bag that an entry can name, if it is one that can
abbrev named_by : Entry → Option BagId
named_by (entry.Vote vote) = Some vote.bag
named_by (entry.Known bag) = Some bag
named_by _ = None

names_none : (e : Entry) → ((v : Vote) → e ≡ entry.Vote v → ⊥)
    → ((b : BagId) → e ≡ entry.Known b → ⊥) → named_by e ≡ None
names_none (entry.Vote v) no_vote no_bag = absurd (no_vote v refl)
names_none (entry.Known b) no_vote no_bag = absurd (no_bag b refl)
names_none _ no_vote no_bag = refl

-- whether it is a vote
is_vote : (e : Entry) (vote : Vote) → (e ≡ entry.Vote vote) ⊎ (e ≡ entry.Vote vote → ⊥)
is_vote (entry.Vote v) vote = elim (cases_Bool (same_vote v vote)) [
  | inl t ↦ inl (ap entry.Vote ((same_vote_decides v vote).0 t))
  | inr f ↦ inr (λ is. cc (f, (same_vote_decides v vote).1 (cc is)))
]
is_vote _ vote = inr (λ is. cc is)

-- of a version s: what was given before, and what is given with an entry of another or of the same
module _ (q : QuorumSystem) (given : List SiteRecord) (n : ℕ) (slot : SlotName) (e : Entry)
    (s : SlotName) where
  keep_vote : (vote : Vote) → ChosenBy q given s vote → ChosenBy q (more given n slot e) s vote
  unfolding network_of
  keep_vote vote c = record {
    voters = c.voters;
    quorum = c.quorum;
    voted = λ m among. keeps given n slot e m s (entry.Vote vote) (c.voted m among);
  }

  keep_bag : (bag : BagId) → IsNamed q given s bag → IsNamed q (more given n slot e) s bag
  unfolding network_of
  keep_bag bag (inl shown) =
      inl (record { ballot = shown.ballot; chosen = keep_vote _ shown.chosen })
  keep_bag bag (inr known) =
      inr (known.0, keeps given n slot e known.0 s (entry.Known bag) known.1)

  -- a vote was chosen before, or it is the new entry
  vote_back : (vote : Vote) → ChosenBy q (more given n slot e) s vote
      → ChosenBy q given s vote ⊎ ((slot ≡ s) × (e ≡ entry.Vote vote))
  unfolding network_of
  vote_back vote c = elim it_is [
    | inl it ↦ inr it
    | inr not_it ↦ inl (record {
      voters = c.voters;
      quorum = c.quorum;
      voted = λ m among.
          elim (old_or_new given n slot e m s (entry.Vote vote) (c.voted m among)) [
            | inl old ↦ old
            | inr new ↦ absurd (not_it (new.1, new.2))
          ];
    })
  ]
    where
      it_is : ((slot ≡ s) × (e ≡ entry.Vote vote)) ⊎ ((slot ≡ s) × (e ≡ entry.Vote vote) → ⊥)
      it_is = elim (cases_Bool (same_slot slot s)) [
        | inl t ↦ elim (is_vote e vote) [
          | inl is ↦ inl ((same_slot_decides slot s).0 t, is)
          | inr other ↦ inr (λ it. other it.1)
        ]
        | inr f ↦ inr (λ it. cc (f, (same_slot_decides slot s).1 it.0))
      ]

  -- a bag was named before, or the new entry names it; then, if this is a vote, it is chosen
  bag_back : (bag : BagId) → IsNamed q (more given n slot e) s bag
      → IsNamed q given s bag
      ⊎ ((slot ≡ s) × (named_by e ≡ Some bag)
      × ((vote : Vote) → e ≡ entry.Vote vote → ChosenBy q (more given n slot e) s vote))
  unfolding network_of
  bag_back bag (inl shown) = elim (vote_back _ shown.chosen) [
    | inl before ↦ inl (inl (record { ballot = shown.ballot; chosen = before }))
    | inr it ↦ inr (
      it.0,
      rw it.1 refl,
      λ vote is.
          let same : record { ballot = shown.ballot; bag = bag } ≡ vote = cc (is, it.1) in
          rw (← same) shown.chosen,
    )
  ]
  bag_back bag (inr known) =
      elim (old_or_new given n slot e known.0 s (entry.Known bag) known.1) [
        | inl before ↦ inl (inr (known.0, before))
        | inr it ↦ inr (it.1, rw it.2 refl, λ vote is. absurd (cc (is, it.2)))
      ]

  -- it names nothing in this version
  pub same : (row : Row) → (slot ≡ s → named_by e ≡ None) → IsRowFor q given s row
      → IsRowFor q (more given n slot e) s row
  same row none is =
      row_same is keep_bag keep_vote
      (λ bag h. elim (bag_back bag h) [
        | inl old ↦ old
        | inr it ↦ absurd (cc (none it.0, it.1))
      ])
      (λ vote h. elim (vote_back vote h) [
        | inl old ↦ old
        | inr it ↦ absurd (cc (rw it.1 at (none it.0)))
      ])

module _ (q : QuorumSystem) (given : List SiteRecord) (n : ℕ) (slot : SlotName) where
  -- an entry that is neither a vote nor a known bag
  pub nothing_filled : (e : Entry) → ((v : Vote) → e ≡ entry.Vote v → ⊥)
      → ((b : BagId) → e ≡ entry.Known b → ⊥) → (row : Row) → IsRowFor q given slot row
      → IsRowFor q (more given n slot e) slot row
  nothing_filled e no_vote no_bag row =
      same q given n slot e slot row (λ one. names_none e no_vote no_bag)

  pub known_filled : (bag : BagId) (row : Row) → IsRowFor q given slot row
      → IsRowFor q (more given n slot (entry.Known bag)) slot (named row bag)
  unfolding network_of
  known_filled bag row is =
      let it = entry.Known bag in
      row_named is (keep_bag q given n slot it slot) (keep_vote q given n slot it slot)
      (λ vote h. elim (vote_back q given n slot it slot vote h) [
        | inl old ↦ old
        | inr new ↦ absurd (cc new.1)
      ]) bag (inr (n, newest given n slot it))
      (λ b h. elim (bag_back q given n slot it slot b h) [
        | inl old ↦ inl old
        | inr new ↦ inr (cc new.1)
      ])

  module _ (laws : AreQuorums q) (old new : Casts) (vote : Vote)
      (counted : IsCounted old new (cast_of slot vote)
      (with_voter (voters_in old (cast_of slot vote)) n))
      (are : AreVoters old given) (row : Row) (is : IsRowFor q given slot row) where
    -- a vote, and whether it makes a quorum
    pub vote_filled : (t : Bool)
        → q.is_quorum (with_voter (voters_in old (cast_of slot vote)) n) ≡ t
        → IsRowFor q (more given n slot (entry.Vote vote)) slot (cond t (chosen_in row vote) row)
    unfolding network_of
    vote_filled true e =
        row_chosen is (keep_bag q given n slot it slot) (keep_vote q given n slot it slot) vote c
        (inl (record { ballot = vote.ballot; chosen = c }))
        (λ b h. elim (bag_back q given n slot it slot b h) [
          | inl before ↦ inl before
          | inr this ↦ inr (cc this.1)
        ])
      where
        it : Entry
        it = entry.Vote vote

        c : ChosenBy q (more given n slot (entry.Vote vote)) slot vote
        c = record {
          voters = voters_in new (cast_of slot vote);
          quorum = rw (voters_are old new given n slot vote counted are) e;
          voted = λ m among. (vote_counted old new given n slot vote counted are slot vote m).0
              ((is_in_decides (voters_in new (cast_of slot vote)) m).1 among);
        }
    vote_filled false e =
        row_same is (keep_bag q given n slot it slot) (keep_vote q given n slot it slot)
        (λ b h. elim (bag_back q given n slot it slot b h) [
          | inl before ↦ before
          | inr this ↦ absurd (none (this.2 vote refl))
        ])
        (λ v h. elim (vote_back q given n slot it slot v h) [
          | inl before ↦ before
          | inr this ↦
              let same : v ≡ vote = cc this.1 in absurd (none (rw same at h))
        ])
      where
        it : Entry
        it = entry.Vote vote

        none : ChosenBy q (more given n slot (entry.Vote vote)) slot vote → ⊥
        none c =
            let voters = voters_in new (cast_of slot vote) in
            let quorum = laws.grow c.voters voters c.quorum
            (λ m member among. (is_in_decides voters m).0
            ((vote_counted old new given n slot vote counted are slot vote m).1
            (c.voted m among))) in
            cc (e, rw (voters_are old new given n slot vote counted are) at quorum)

-- one version's row is another, and all others are as they were
pub rows_filled : (q : QuorumSystem) (old new : Rows Row) (given : List SiteRecord) (n : ℕ)
    (slot : SlotName) (e : Entry) (row : Row) → IsWith old new slot row
    → AreRows q old given → IsRowFor q (more given n slot e) slot row
    → AreRows q new (more given n slot e)
rows_filled q old new given n slot e row put are after s =
    rw (put s)
    (elim (cases_Bool (same_slot slot s)) [
      | inl t ↦ rw (t, ← (same_slot_decides slot s).0 t) after
      | inr f ↦
          rw f
          (same q given n slot e s (row_of empty_row old s)
          (λ is. absurd (cc (f, (same_slot_decides slot s).1 is))) (are s))
    ])
