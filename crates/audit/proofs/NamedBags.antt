-- What a row becomes as bags are named and votes are chosen, and what is found by it.
use Rattle.std.proofs.Common.{◌≡◌, ◌≢◌, ◌⊎◌, false, inl, inr, refl, ◌∙◌, Option, Some, None}
use Rattle.std.proofs.Common.{IsSome}
use Rattle.std.proofs.lemmas.Bool.{cases_Bool}
use Rattle.fed_types.specs.declared.bag_id.BagId.{BagId}
use Rattle.fed_types.specs.declared.vote.Vote.{Vote}
use Rattle.fed_types.specs.Bags.{same_bag}
use Rattle.fed_types.specs.Laws.Bags.{same_bag_decides}
use Rattle.records.specs.SlotStates.{earlier}
use Rattle.audit.specs.declared.row.Row.{Row}
use Rattle.audit.specs.inner.Rows.{empty_row, named, named_after, named_again}
use Rattle.audit.specs.inner.Rows.{chosen_in, IsRowOf}

earlier_some : {X : Type 0} (o : Option X) (x : X) → IsSome (earlier o x)
earlier_some None x = refl
earlier_some (Some y) x = refl

-- a row of which nothing was named
pub nothing_named : {N : BagId → Type 0} {C : Vote → Type 0} → ((bag : BagId) → ¬ N bag)
    → ((vote : Vote) → ¬ C vote) → IsRowOf N C empty_row
nothing_named no_bag no_vote = record {
  first_is = λ bag e. absurd (cc e);
  other_is = λ other e. absurd (cc e);
  chosen_is = λ vote e. absurd (cc e);
  all_named = λ bag n. absurd (no_bag bag n);
  all_chosen = λ vote c. absurd (no_vote vote c);
}

-- nothing is new
pub row_same : {N N' : BagId → Type 0} {C C' : Vote → Type 0} {row : Row} → IsRowOf N C row
    → ((bag : BagId) → N bag → N' bag) → ((vote : Vote) → C vote → C' vote)
    → ((bag : BagId) → N' bag → N bag) → ((vote : Vote) → C' vote → C vote)
    → IsRowOf N' C' row
row_same is keep keep_vote back back_vote = record {
  first_is = λ bag e. keep bag (is.first_is bag e);
  other_is = λ other e. (keep other (is.other_is other e).0, (is.other_is other e).1);
  chosen_is = λ vote e. keep_vote vote (is.chosen_is vote e);
  all_named = λ bag n. is.all_named bag (back bag n);
  all_chosen = λ vote c. is.all_chosen vote (back_vote vote c);
}

-- a bag is named
module _ {N N' : BagId → Type 0} {C C' : Vote → Type 0} {row : Row} (is : IsRowOf N C row)
    (keep : (bag : BagId) → N bag → N' bag) (keep_vote : (vote : Vote) → C vote → C' vote)
    (back_vote : (vote : Vote) → C' vote → C vote) (new : BagId) (is_named : N' new)
    (back : (bag : BagId) → N' bag → N bag ⊎ (bag ≡ new)) where
  named_first : row.first ≡ None → IsRowOf N' C' (named_after None row new)
  named_first none = record {
    first_is = λ bag e. let same : new ≡ bag = cc e in rw (← same) is_named;
    other_is = λ other e. absurd (cc (none, (is.other_is other e).1.1));
    chosen_is = λ vote e. keep_vote vote (is.chosen_is vote e);
    all_named = λ bag n. elim (back bag n) [
      | inl old ↦ elim (is.all_named bag old) [
        | inl first ↦ absurd (cc (none, first))
        | inr other ↦ inr other
      ]
      | inr same ↦ inl (rw same)
    ];
    all_chosen = λ vote c. is.all_chosen vote (back_vote vote c);
  }

  named_same : row.first ≡ Some new → IsRowOf N' C' row
  named_same first =
      row_same is keep keep_vote
      (λ bag n. elim (back bag n) [
        | inl old ↦ old
        | inr same ↦ rw same (is.first_is new first)
      ])
      back_vote

  other_after : (first : BagId) → row.first ≡ Some first → first ≢ new → (o : Option BagId)
      → row.other ≡ o → (other : BagId) → earlier o new ≡ Some other
      → N' other × ((bag : BagId) × (row.first ≡ Some bag) × (bag ≢ other))
  other_after first is_first differs None none other e =
      let same : new ≡ other = cc e in rw (← same) (is_named, (first, is_first, differs))
  other_after first is_first differs (Some x) some other e =
      let f = is.other_is other (some ∙ e) in (keep other f.0, f.1)

  named_other : (first : BagId) → row.first ≡ Some first → first ≢ new
      → IsRowOf N' C' (named_again false row new)
  named_other first is_first differs = record {
    first_is = λ bag e. keep bag (is.first_is bag e);
    other_is = λ other e. other_after first is_first differs row.other refl other e;
    chosen_is = λ vote e. keep_vote vote (is.chosen_is vote e);
    all_named = λ bag n. inr (earlier_some row.other new);
    all_chosen = λ vote c. is.all_chosen vote (back_vote vote c);
  }

  named_after_is : (o : Option BagId) → row.first ≡ o → IsRowOf N' C' (named_after o row new)
  named_after_is None none = named_first none
  named_after_is (Some first) is_first = elim (cases_Bool (same_bag first new)) [
    | inl e ↦ rw e (named_same (rw ((same_bag_decides first new).0 e) at is_first))
    | inr e ↦
        rw e (named_other first is_first (λ same. cc (e, (same_bag_decides first new).1 same)))
  ]

  pub row_named : IsRowOf N' C' (named row new)
  row_named = named_after_is row.first refl

-- a vote is chosen
chosen_after : {C' : Vote → Type 0} (new : Vote) → C' new → (o : Option Vote)
    → ((vote : Vote) → o ≡ Some vote → C' vote) → (vote : Vote) → earlier o new ≡ Some vote
    → C' vote
chosen_after new is None old vote e = let same : new ≡ vote = cc e in rw (← same) is
chosen_after new is (Some x) old vote e = old vote e

pub row_chosen : {N N' : BagId → Type 0} {C C' : Vote → Type 0} {row : Row} → IsRowOf N C row
    → ((bag : BagId) → N bag → N' bag) → ((vote : Vote) → C vote → C' vote) → (new : Vote)
    → C' new → N' new.bag → ((bag : BagId) → N' bag → N bag ⊎ (bag ≡ new.bag))
    → IsRowOf N' C' (chosen_in row new)
row_chosen {N} {N'} {C} {C'} {row} is keep keep_vote new is_chosen is_named back =
    let r : IsRowOf N' C (named row new.bag) =
    row_named is keep (λ vote c. c) (λ vote c. c) new.bag is_named back in
    record {
      first_is = r.first_is;
      other_is = r.other_is;
      chosen_is = chosen_after new is_chosen (named row new.bag).chosen
          (λ vote e. keep_vote vote (r.chosen_is vote e));
      all_named = r.all_named;
      all_chosen = λ vote c. earlier_some (named row new.bag).chosen new;
    }
