-- What holds of each element and each that comes after it.
use Rattle.std.proofs.Common.{ℕ, suc, Bool, true, false, List, [], ◌∷◌, ◌++◌, map}
use Rattle.std.proofs.Common.{get_or, refl, subst, inl, inr, arith}
use Rattle.std.specs.Prelude.{AllPairs}
use Rattle.std.specs.List.{flat_map}
use Rattle.std.proofs.lemmas.List.Elements.{Contains-get_or}
use Rattle.std.proofs.lemmas.List.Kept.{AllPairs-cons}
use Rattle.bag_explain.specs.Listings.{unless_malformed}
use Rattle.bag_explain.specs.Places.{when}
use Rattle.bag_explain.proofs.Members.{In, contained_in, in_contained, in_either, in_some, in_map}

-- each element is related to all that come after it
abbrev pub Pairs : {X : Type 0} → (X → X → Type 0) → List X → Type 0
Pairs R [] = Unit {0}
Pairs {X} R (x ∷ xs) = ((y : X) → In y xs → R x y) × Pairs R xs

-- std's word and this one say the same
pub all_pairs : {X : Type 0} (R : X → X → Type 0) (xs : List X) → Pairs R xs → AllPairs R xs
all_pairs R [] h = λ i j d below within. absurd (omega arith)
all_pairs R (x ∷ xs) (first, others) =
    AllPairs-cons R x xs
    (λ k d within. first (get_or xs k d)
    (contained_in xs (get_or xs k d) (Contains-get_or xs k d within)))
    (all_pairs R xs others)

pub pairs_all : {X : Type 0} (R : X → X → Type 0) (xs : List X) → AllPairs R xs → Pairs R xs
pairs_all R [] h = tt
pairs_all R (x ∷ xs) h = (
  λ y there.
      let c = in_contained xs y there in
      subst (R x) c.2 (h 0 (suc c.0) y (omega arith) (omega (arith, c.1))),
  pairs_all R xs (λ i j d below within. h (suc i) (suc j) d (omega arith) (omega arith)),
)

pub pairs_both : {X : Type 0} (R : X → X → Type 0) (a b : List X) → Pairs R a → Pairs R b
    → ((x y : X) → In x a → In y b → R x y) → Pairs R (a ++ b)
pairs_both R [] b left right across = right
pairs_both R (x ∷ a) b (first, others) right across = (
  λ y h. elim (in_either a b y h) [
    | inl k ↦ first y k
    | inr k ↦ across x y (inl refl) k
  ],
  pairs_both R a b others right (λ z y k. across z y (inr k)),
)

-- what each element gives is so, where it is so of what two of them give
pub pairs_each : {X Y : Type 0} (R : X → X → Type 0) (S : Y → Y → Type 0) (f : X → List Y)
    → ((x : X) → Pairs S (f x))
    → ((a b : X) → R a b → (x y : Y) → In x (f a) → In y (f b) → S x y)
    → (xs : List X) → Pairs R xs → Pairs S (flat_map f xs)
pairs_each R S f one two [] h = tt
pairs_each R S f one two (x ∷ xs) (first, others) =
    pairs_both S (f x) (flat_map f xs) (one x) (pairs_each R S f one two xs others)
    (λ y z h k.
    let (other, there, here) = in_some f xs z k in
    two x other (first other there) y z h here)

-- so it is of what a function makes of each
pub pairs_map : {X Y : Type 0} (R : X → X → Type 0) (S : Y → Y → Type 0) (f : X → Y)
    → ((a b : X) → R a b → S (f a) (f b)) → (xs : List X) → Pairs R xs → Pairs S (map f xs)
pairs_map R S f keeps [] h = tt
pairs_map R S f keeps (x ∷ xs) (first, others) = (
  λ y there.
      let (other, among, is) = in_map f xs y there in
      subst (S (f x)) is (keeps x other (first other among)),
  pairs_map R S f keeps xs others,
)

-- and it is so where any two of the list are related
pub pairs_any : {X : Type 0} (R : X → X → Type 0) (xs : List X)
    → ((x y : X) → In x xs → In y xs → R x y) → Pairs R xs
pairs_any R [] any = tt
pairs_any R (x ∷ xs) any = (
  λ y there. any x y (inl refl) (inr there),
  pairs_any R xs (λ y z h k. any y z (inr h) (inr k)),
)

pub pairs_when : {X : Type 0} (R : X → X → Type 0) (test : Bool) (x : X)
    → Pairs R (when test (x ∷ []))
pairs_when R true x = (λ y h. absurd h, tt)
pairs_when R false x = tt

pub pairs_unless : {X : Type 0} (R : X → X → Type 0) (malformed : List ℕ) (xs : List X)
    → Pairs R xs → Pairs R (unless_malformed malformed xs)
pairs_unless R [] xs h = h
pairs_unless R (line ∷ malformed) xs h = tt
