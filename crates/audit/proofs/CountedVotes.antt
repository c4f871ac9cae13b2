-- What one more vote makes of the sites that are counted for each.
use Rattle.std.proofs.Common.{◌≡◌, ◌↔◌, ℕ, ◌==◌, true, inl, inr, refl, List, eq-eqb}
use Rattle.std.proofs.lemmas.Bool.{eqb-true, cases_Bool, or_cases, or_left, or_right, and_parts}
use Rattle.fed_types.specs.declared.vote.Vote.{Vote}
use Rattle.fed_types.specs.Lists.{is_in}
use Rattle.fed_types.specs.Slots.{SlotName, same_slot}
use Rattle.fed_types.specs.Voters.{with_voter}
use Rattle.fed_types.specs.Laws.Slots.{same_slot_decides}
use Rattle.fed_types.specs.Laws.Voters.{is_in-with_voter}
use Rattle.records.specs.declared.entry.Entry.{Entry}
use Rattle.records.specs.declared.entry.Entry.TheVariants as entry
use Rattle.dgram.specs.Heard.{same_vote}
use Rattle.learner.proofs.HeardVotes.{same_vote_decides}
use Rattle.audit.specs.Evidence.{SiteRecord}
use Rattle.audit.specs.inner.Casts.{Casts, cast_of, same_cast, voters_in, IsCounted}
use Rattle.audit.specs.Tables.{AreVoters}
use Rattle.audit.proofs.GivenRecords.{Given, more, old_or_new, keeps, newest}

-- an entry that is no vote
pub no_vote : (votes : Casts) (given : List SiteRecord) (n : ℕ) (slot : SlotName) (e : Entry)
    → ((v : Vote) → e ≡ entry.Vote v → ⊥) → AreVoters votes given
    → AreVoters votes (more given n slot e)
no_vote votes given n slot e other are s vote m = (
  λ h. keeps given n slot e m s (entry.Vote vote) ((are s vote m).0 h),
  λ h. elim (old_or_new given n slot e m s (entry.Vote vote) h) [
    | inl old ↦ (are s vote m).1 old
    | inr new ↦ absurd (other vote new.2)
  ],
)

module _ (old new : Casts) (given : List SiteRecord) (n : ℕ) (slot : SlotName) (vote : Vote)
    (counted : IsCounted old new (cast_of slot vote)
    (with_voter (voters_in old (cast_of slot vote)) n))
    (are : AreVoters old given) where
  pub voters_are : voters_in new (cast_of slot vote)
      ≡ with_voter (voters_in old (cast_of slot vote)) n
  voters_are = rw (counted (cast_of slot vote))
      (rw ((same_slot_decides slot slot).1 refl, (same_vote_decides vote vote).1 refl))

  -- the voters of the new vote
  these : (m : ℕ) → (is_in (voters_in new (cast_of slot vote)) m ≡ true)
      ↔ Given (more given n slot (entry.Vote vote)) m slot (entry.Vote vote)
  these m = rw (voters_are, is_in-with_voter (voters_in old (cast_of slot vote)) n m) (
    λ h. elim (or_cases (n == m) (is_in (voters_in old (cast_of slot vote)) m) h) [
      | inl same ↦ rw (← eqb-true n m same) (newest given n slot (entry.Vote vote))
      | inr before ↦ keeps given n slot _ m slot (entry.Vote vote) ((are slot vote m).0 before)
    ],
    λ h. elim (old_or_new given n slot (entry.Vote vote) m slot (entry.Vote vote) h) [
      | inl before ↦ or_right (n == m) _ ((are slot vote m).1 before)
      | inr this ↦ or_left (n == m) _ (eq-eqb n m this.0)
    ],
  )

  pub vote_counted : AreVoters new (more given n slot (entry.Vote vote))
  vote_counted s v m = elim (cases_Bool (same_cast (cast_of slot vote) (cast_of s v))) [
    | inl e ↦
        let p = and_parts (same_slot slot s) (same_vote vote v) e in
        rw (← (same_slot_decides slot s).0 p.0, ← (same_vote_decides vote v).0 p.1) (these m)
    | inr e ↦ rw (counted (cast_of s v), e) (
      λ h. keeps given n slot _ m s (entry.Vote v) ((are s v m).0 h),
      λ h. elim (old_or_new given n slot (entry.Vote vote) m s (entry.Vote v) h) [
        | inl before ↦ (are s v m).1 before
        | inr this ↦
            let slots = (same_slot_decides slot s).1 this.1 in
            let votes = (same_vote_decides vote v).1 (cc this.2) in
            absurd (cc (rw (slots, votes) at e))
      ],
    )
  ]
