-- The tree of a number is the one at its place.
use Rattle.std.proofs.Common.{◌≡◌, ◌<◌, ℕ, suc, Bool, true, false, cond, eqb, arith}
use Rattle.std.proofs.Common.{List, [], ◌∷◌, ◌++◌, length, get_or, Option, Some, None, IsSome}
use Rattle.std.proofs.Common.{refl, ap, ◌∙◌, inl, inr}
use Rattle.std.proofs.lemmas.Bool.{eqb-true}
use Rattle.std.proofs.lemmas.Bool.Decides.{eqb_tells}
use Rattle.std.specs.Map.{lookup}
use Rattle.std.specs.Option.{option_map, option_or}
use Rattle.std.specs.Prelude.{nat_eq, slice_set}
use Rattle.bag_tree.specs.Tree.{Files}
use Rattle.world_law.specs.Trees.{NumberedTree, tree_at, put_tree}
use Rattle.sim_stations.specs.Places.{place_of, ArePlaces}

-- the number's tree stands at this place
pub record IsAt (number : ℕ) (trees : List NumberedTree) (place : ℕ) : Type 0 where
  pub within : place < length trees
  pub there : IsSome (tree_at number trees)
  pub numbered : (t : NumberedTree) → t ≡ get_or trees place t → t.number ≡ number
  pub tree : (t : NumberedTree) → t ≡ get_or trees place t → Some t.files ≡ tree_at number trees
  pub put : (t : NumberedTree) → t.number ≡ number
      → slice_set trees place t ≡ put_tree number t.files trees

-- it stands where it has a place, and else there is none
abbrev pub Stands : (number : ℕ) → List NumberedTree → Option ℕ → Type 0
Stands number trees None = None ≡ tree_at number trees
Stands number trees (Some place) = IsAt number trees place

stands : (number : ℕ) (trees : List NumberedTree) → Stands number trees (place_of number trees)
unfolding place_of tree_at put_tree
stands number [] = refl
stands number (t ∷ trees) =
    go (eqb t.number number) refl (place_of number trees) (stands number trees)
  where
    go : (same : Bool) → eqb t.number number ≡ same → (place : Option ℕ)
        → Stands number trees place
        → Stands number (t ∷ trees) (cond same (Some 0) (option_map (λ p. suc p) place))
    go true is place later = record {
      within = omega arith;
      there = rw is refl;
      numbered = λ x e. ap (λ (y : NumberedTree). y.number) e ∙ eqb-true t.number number is;
      tree = λ x e. rw is (ap (λ (y : NumberedTree). Some y.files) e);
      put = λ x e. rw is (ap (λ (n : ℕ). record { number = n; files = x.files } ∷ trees) e);
    }
    go false is None later = rw is later
    go false is (Some place) later = record {
      within = omega (arith, later.within);
      there = rw is later.there;
      numbered = later.numbered;
      tree = λ x e. rw is (later.tree x e);
      put = λ x e. rw is (ap (λ (ts : List NumberedTree). t ∷ ts) (later.put x e));
    }

pub at : (number : ℕ) (trees : List NumberedTree) (place : Option ℕ)
    → place ≡ place_of number trees → Stands number trees place
at number trees place is = rw is (stands number trees)

-- nothing was declared
pub no_places : (places : List (ℕ × ℕ)) (trees : List NumberedTree) → places ≡ [] → trees ≡ []
    → ArePlaces places trees
unfolding place_of
no_places places trees empty none = rw (empty, none) (λ n. refl)

-- a number without a tree has no place
no_place : (number : ℕ) (trees : List NumberedTree) → tree_at number trees ≡ None
    → place_of number trees ≡ None
no_place number trees none = go (place_of number trees) (stands number trees)
  where
    go : (place : Option ℕ) → Stands number trees place → place ≡ None
    go None it = refl
    go (Some place) it = absurd (cc (rw none at it.there))

-- the places once one more tree was declared
more : (number : ℕ) (trees : List NumberedTree) (t : NumberedTree)
    → place_of number (trees ++ t ∷ [])
    ≡ option_or (place_of number trees) (cond (eqb t.number number) (Some (length trees)) None)
unfolding place_of
more number [] t = refl
more number (x ∷ trees) t =
    rw (more number trees t)
    (go (eqb x.number number) (place_of number trees) (eqb t.number number))
  where
    go : (here : Bool) (place : Option ℕ) (there : Bool)
        → cond here (Some 0)
        (option_map (λ p. suc p) (option_or place (cond there (Some (length trees)) None)))
        ≡ option_or (cond here (Some 0) (option_map (λ p. suc p) place))
        (cond there (Some (suc (length trees))) None)
    go true place there = refl
    go false None true = refl
    go false None false = refl
    go false (Some p) there = refl

module _ (old new : List (ℕ × ℕ)) (number : ℕ) (files : Files) (trees : List NumberedTree)
    (are : ArePlaces old trees) (none : tree_at number trees ≡ None) where
  pub places_of_more : (key place : ℕ) → key ≡ number → place ≡ length trees
      → ((n : ℕ) → lookup (nat_eq n) new
      ≡ cond (nat_eq key n) (Some place) (lookup (nat_eq n) old))
      → ArePlaces new (trees ++ record { number = number; files = files } ∷ [])
  places_of_more key place keyed placed put n =
      rw (put n, keyed, placed, are n, more n trees (record { number = number; files = files }))
      (go (eqb number n) refl)
    where
      or_none : (o : Option ℕ) → o ≡ option_or o None
      or_none None = refl
      or_none (Some x) = refl

      go : (same : Bool) → eqb number n ≡ same
          → cond same (Some (length trees)) (place_of n trees)
          ≡ option_or (place_of n trees) (cond same (Some (length trees)) None)
      go true e = rw (← eqb-true number n e, no_place number trees none)
      go false e = or_none (place_of n trees)

-- files that are put leave each tree at its place
place_of-put : (n number : ℕ) (files : Files) (trees : List NumberedTree)
    → place_of n (put_tree number files trees) ≡ place_of n trees
unfolding place_of put_tree
place_of-put n number files [] = refl
place_of-put n number files (t ∷ trees) = elim (eqb_tells t.number number) [
  | inl h ↦ rw (h.0, h.1)
  | inr h ↦ rw (h.0, place_of-put n number files trees)
]

places_of_put : (places : List (ℕ × ℕ)) (number : ℕ) (files : Files) (trees : List NumberedTree)
    → ArePlaces places trees → ArePlaces places (put_tree number files trees)
places_of_put places number files trees are n = rw (place_of-put n number files trees) (are n)

-- a tree that was found at its place, in the trees that are seen as these
module _ (number : ℕ) {place : ℕ} {inside now : List NumberedTree} (seen : inside ≡ now)
    (found : Some place ≡ place_of number now) where
  it_is : IsAt number inside place
  it_is = rw seen (at number now (Some place) found)

  pub in_range : place < length inside
  in_range = it_is.within

  module _ {tree : NumberedTree} (is : tree ≡ get_or inside place tree) where
    pub found_tree : Some tree.files ≡ tree_at number now
    found_tree = rw (← seen) (it_is.tree tree is)

    -- what is written there is put under its number
    pub written : (files : Files)
        → slice_set inside place (record { number = tree.number; files = files })
        ≡ put_tree number files now
    written files =
        rw (← seen)
        (it_is.put (record { number = tree.number; files = files }) (it_is.numbered tree is))

    pub still_placed : (places : List (ℕ × ℕ)) → ArePlaces places inside → (files : Files)
        → ArePlaces places (slice_set inside place (record { number = tree.number; files = files }))
    still_placed places are files =
        rw (written files) (places_of_put places number files now (rw seen at are))
