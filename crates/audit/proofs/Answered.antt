-- What is found of a version by its row is so.
use Rattle.std.proofs.Common.{◌≡◌, inl, inr, refl, List}
use Rattle.std.proofs.Common.{Option, Some, None, IsSome}
use Rattle.fed_types.specs.declared.bag_id.BagId.{BagId}
use Rattle.fed_types.specs.declared.vote.Vote.{Vote}
use Rattle.fed_types.specs.Quorums.{QuorumSystem}
use Rattle.fed_types.specs.Slots.{SlotName}
use Rattle.audit.specs.declared.row.Row.{Row}
use Rattle.audit.specs.Evidence.{SiteRecord}
use Rattle.audit.specs.Findings.{IsFinding}
use Rattle.audit.specs.Laws.{ShowChosen, SayKnown, IsNamed}
use Rattle.audit.specs.inner.Rows.{finding_by, finding_in}
use Rattle.audit.specs.Tables.{IsRowFor}

module _ (q : QuorumSystem) (given : List SiteRecord) (slot : SlotName) (row : Row)
    (is : IsRowFor q given slot row) where
  -- where there is no other, each named bag is the first
  is_first : row.other ≡ None → (bag : BagId) → IsNamed q given slot bag → row.first ≡ Some bag
  is_first none bag n = elim (is.all_named bag n) [
    | inl first ↦ first
    | inr other ↦ absurd (cc (rw none at other))
  ]

  found : (first other : Option BagId) (chosen : Option Vote) → row.first ≡ first
      → row.other ≡ other → row.chosen ≡ chosen
      → IsFinding q given slot (finding_by first other chosen)
  found None other chosen f o c = λ bag n. elim (is.all_named bag n) [
    | inl first ↦ cc (f, first)
    | inr some ↦ none_first other o some
  ]
    where
      none_first : (other : Option BagId) → row.other ≡ other → IsSome row.other → ⊥
      none_first None o some = cc (rw o at some)
      none_first (Some b) o some = cc (f, (is.other_is b o).1.1)
  found (Some first) (Some other) chosen f o c =
      let w = is.other_is other o in (
        is.first_is first f,
        w.0,
        λ same. w.1.2 (cc (w.1.1, f, same)),
      )
  found (Some first) None (Some vote) f o c =
      let by = is.chosen_is vote c in (
        by,
        λ other n. cc (
          is_first o other n,
          is_first o vote.bag (inl (record { ballot = vote.ballot; chosen = by })),
        ),
      )
  found (Some first) None None f o c =
      let no_vote : (other : BagId) → ¬ ShowChosen q given slot other =
      λ other shown. absurd (cc (rw c at (is.all_chosen _ shown.chosen))) in (
        known first no_vote (is.first_is first f),
        no_vote,
        λ other n. cc (is_first o other n, f),
      )
    where
      known : (bag : BagId) → ((other : BagId) → ¬ ShowChosen q given slot other)
          → IsNamed q given slot bag → SayKnown given slot bag
      known bag none (inl shown) = absurd (none bag shown)
      known bag none (inr said) = said

  pub row_found : IsFinding q given slot (finding_in row)
  row_found = found row.first row.other row.chosen refl refl refl
