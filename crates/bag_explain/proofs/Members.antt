-- What a list has, from its first element on.
use Rattle.std.proofs.Common.{◌≡◌, ℕ, suc, zero, ◌⊎◌, Bool, true, false, List, [], ◌∷◌, ◌++◌, map}
use Rattle.std.proofs.Common.{refl, sym, ap, subst, inl, inr, arith}
use Rattle.std.specs.Prelude.{Contains}
use Rattle.std.specs.List.{AllByRecursion, flat_map}
use Rattle.bag_check.specs.declared.manifests.Kind.{Kind}
use Rattle.bag_check.specs.declared.manifests.Kind.TheVariants.{Payload, Tag}
use Rattle.bag_explain.specs.Listings.{unless_malformed}
use Rattle.bag_explain.specs.Places.{when, of_payload}

-- the element is the first of the list, or one after it
abbrev pub In : {X : Type 0} → X → List X → Type 0
In x [] = ⊥
In x (y ∷ ys) = (y ≡ x) ⊎ In x ys

-- std's word and this one say the same
pub contained_in : {X : Type 0} (xs : List X) (x : X) → Contains xs x → In x xs
contained_in [] x (k, within, e) = absurd (omega arith)
contained_in (y ∷ ys) x (zero, within, e) = inl e
contained_in (y ∷ ys) x (suc k, within, e) = inr (contained_in ys x (k, omega arith, e))

pub in_contained : {X : Type 0} (xs : List X) (x : X) → In x xs → Contains xs x
in_contained [] x h = absurd h
in_contained (y ∷ ys) x (inl e) = (0, omega arith, e)
in_contained (y ∷ ys) x (inr h) =
    let rest = in_contained ys x h in (suc rest.0, omega (arith, rest.1), rest.2)

-- what holds of all holds of each
pub of_each : {X : Type 0} (P : X → Type 0) (xs : List X) (x : X) → AllByRecursion P xs → In x xs
    → P x
of_each P [] x all h = absurd h
of_each P (y ∷ ys) x (first, others) (inl e) = subst P e first
of_each P (y ∷ ys) x (first, others) (inr h) = of_each P ys x others h

-- ---- two lists, one after the other

pub in_either : {X : Type 0} (a b : List X) (x : X) → In x (a ++ b) → In x a ⊎ In x b
in_either [] b x h = inr h
in_either (y ∷ a) b x (inl e) = inl (inl e)
in_either (y ∷ a) b x (inr h) =
    elim (in_either a b x h) [ inl left ↦ inl (inr left) | inr right ↦ inr right ]

pub in_left : {X : Type 0} (a b : List X) (x : X) → In x a → In x (a ++ b)
in_left [] b x h = absurd h
in_left (y ∷ a) b x (inl e) = inl e
in_left (y ∷ a) b x (inr h) = inr (in_left a b x h)

pub in_right : {X : Type 0} (a b : List X) (x : X) → In x b → In x (a ++ b)
in_right [] b x h = h
in_right (y ∷ a) b x h = inr (in_right a b x h)

-- ---- what each element gives

pub in_some : {X Y : Type 0} (f : X → List Y) (xs : List X) (y : Y) → In y (flat_map f xs)
    → (x : X) × In x xs × In y (f x)
in_some f [] y h = absurd h
in_some f (x ∷ xs) y h =
    elim (in_either (f x) (flat_map f xs) y h) [
      | inl here ↦ (x, inl refl, here)
      | inr there ↦ let rest = in_some f xs y there in (rest.0, inr rest.1, rest.2)
    ]

pub some_in : {X Y : Type 0} (f : X → List Y) (xs : List X) (x : X) (y : Y) → In x xs → In y (f x)
    → In y (flat_map f xs)
some_in f [] x y h k = absurd h
some_in f (first ∷ xs) x y (inl e) k =
    in_left (f first) (flat_map f xs) y (subst (λ z. In y (f z)) (sym e) k)
some_in f (first ∷ xs) x y (inr h) k =
    in_right (f first) (flat_map f xs) y (some_in f xs x y h k)

-- ---- what a function makes of each element

pub in_map : {X Y : Type 0} (f : X → Y) (xs : List X) (y : Y) → In y (map f xs)
    → (x : X) × In x xs × (f x ≡ y)
in_map f [] y h = absurd h
in_map f (x ∷ xs) y (inl e) = (x, inl refl, e)
in_map f (x ∷ xs) y (inr h) = let rest = in_map f xs y h in (rest.0, inr rest.1, rest.2)

pub map_in : {X Y : Type 0} (f : X → Y) (xs : List X) (x : X) → In x xs → In (f x) (map f xs)
map_in f [] x h = absurd h
map_in f (first ∷ xs) x (inl e) = inl (ap f e)
map_in f (first ∷ xs) x (inr h) = inr (map_in f xs x h)

-- ---- one element

pub in_one : {X : Type 0} (x y : X) → In y (x ∷ []) → x ≡ y
in_one x y (inl e) = e
in_one x y (inr none) = absurd none

-- the same, where a test passes
pub in_when : {X : Type 0} (test : Bool) (x y : X) → In y (when test (x ∷ []))
    → (test ≡ true) × (x ≡ y)
in_when true x y h = (refl, in_one x y h)
in_when false x y h = absurd h

pub when_in : {X : Type 0} (test : Bool) (x : X) → test ≡ true → In x (when test (x ∷ []))
when_in true x h = inl refl
when_in false x h = absurd cc

-- ---- what is asked about where no line is malformed

pub in_unless : {X : Type 0} (malformed : List ℕ) (xs : List X) (x : X)
    → In x (unless_malformed malformed xs) → (malformed ≡ []) × In x xs
in_unless [] xs x h = (refl, h)
in_unless (line ∷ malformed) xs x h = absurd h

pub unless_in : {X : Type 0} (malformed : List ℕ) (xs : List X) (x : X) → malformed ≡ [] → In x xs
    → In x (unless_malformed malformed xs)
unless_in [] xs x e h = h
unless_in (line ∷ malformed) xs x e h = absurd cc

-- ---- what is asked of payload manifests alone

pub in_payload : {X : Type 0} (kind : Kind) (xs : List X) (x : X) → In x (of_payload kind xs)
    → (kind ≡ Payload) × In x xs
in_payload Payload xs x h = (refl, h)
in_payload Tag xs x h = absurd h

pub payload_in : {X : Type 0} (kind : Kind) (xs : List X) (x : X) → kind ≡ Payload → In x xs
    → In x (of_payload kind xs)
payload_in Payload xs x e h = h
payload_in Tag xs x e h = absurd cc
