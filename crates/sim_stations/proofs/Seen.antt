-- One bag more is seen.
use Rattle.std.proofs.Common.{◌≡◌, ℕ, cond, List, [], ◌∷◌, ◌++◌, Option, Some, None, IsSome, refl}
use Rattle.std.proofs.Common.{inl, inr}
use Rattle.std.proofs.lemmas.Bool.{cases_Bool}
use Rattle.std.specs.Map.{lookup}
use Rattle.std.specs.Option.{option_or}
use Rattle.fed_types.specs.declared.bag_id.BagId.{BagId}
use Rattle.fed_types.specs.Bags.{same_bag}
use Rattle.fed_types.specs.Laws.Bags.{same_bag_decides}
use Rattle.lines.specs.Named.{SeenBag, first_tree}
use Rattle.sim_stations.specs.Firsts.{Firsts, first_of, Represents}

-- nothing was seen
pub first_of-nil : (bag : BagId) → None ≡ first_of bag []
unfolding first_of
first_of-nil bag = refl

-- a bag at the end is the first where there was none
first_of-push : (bag : BagId) (seen : List SeenBag) (s : SeenBag)
    → first_of bag (seen ++ s ∷ [])
    ≡ option_or (first_of bag seen) (cond (same_bag s.bag bag) (Some s.tree) None)
unfolding first_of
first_of-push bag [] s = refl
first_of-push bag (x ∷ seen) s = elim (cases_Bool (same_bag x.bag bag)) [
  | inl e ↦ rw e
  | inr e ↦ rw (e, first_of-push bag seen s)
]

-- what is there stays
or_there : (o p : Option ℕ) → IsSome o → o ≡ option_or o p
or_there (Some x) p there = refl
or_there None p there = absurd (cc there)

or_none : (o : Option ℕ) → o ≡ option_or o None
or_none None = refl
or_none (Some x) = refl

-- a bag that was seen is seen once more
pub seen_again : (firsts : Firsts) (bag : BagId) (tree : ℕ) → IsSome (lookup (same_bag bag) firsts)
    → (seen : List SeenBag) → Represents firsts seen
    → Represents firsts (seen ++ record { bag = bag; tree = tree } ∷ [])
seen_again firsts bag tree there seen stands b =
    rw (first_of-push b seen (record { bag = bag; tree = tree }), ← stands b)
    (elim (cases_Bool (same_bag bag b)) [
      | inl e ↦ rw e (or_there _ _ (rw ((same_bag_decides bag b).0 e) at there))
      | inr e ↦ rw e (or_none _)
    ])

-- one that wasn't seen is seen first
pub seen_first : (old new : Firsts) (bag : BagId) (tree : ℕ) → lookup (same_bag bag) old ≡ None
    → ((b : BagId)
    → lookup (same_bag b) new ≡ cond (same_bag bag b) (Some tree) (lookup (same_bag b) old))
    → (seen : List SeenBag) → Represents old seen
    → Represents new (seen ++ record { bag = bag; tree = tree } ∷ [])
seen_first old new bag tree none put seen stands b =
    rw (put b, first_of-push b seen (record { bag = bag; tree = tree }), ← stands b)
    (elim (cases_Bool (same_bag bag b)) [
      | inl e ↦ rw (e, ← (same_bag_decides bag b).0 e, none)
      | inr e ↦ rw e (or_none _)
    ])

-- the number of a tree, and 0 where there is none
unfoldable pub tree_or_0 : Option ℕ → ℕ
tree_or_0 None = 0
tree_or_0 (Some tree) = tree

-- the tree of the first is the one in which the bag was seen first
pub tree_of_first : (bag : BagId) (seen : List SeenBag)
    → tree_or_0 (first_of bag seen) ≡ first_tree bag seen
unfolding first_of first_tree tree_or_0
tree_of_first bag [] = refl
tree_of_first bag (s ∷ seen) = elim (cases_Bool (same_bag s.bag bag)) [
  | inl e ↦ rw e
  | inr e ↦ rw e (tree_of_first bag seen)
]
