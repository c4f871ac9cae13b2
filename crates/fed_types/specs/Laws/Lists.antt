-- What is in a list, by the fact `Has` and by the test `is_in`.
use Rattle.std.specs.Prelude.{◌≡◌, ℕ, zero, suc, true, false, ◌||◌, ◌==◌, List, [], ◌∷◌, ◌++◌, ◌⊎◌}
use Rattle.std.specs.Prelude.{Option, Some, None, Decides, take, drop, map, refl}
use Rattle.std.specs.List.{cons_option, filter_map, fold}
use Rattle.std.proofs.Common.{sym, ap, ◌∙◌, inl, inr, eq-eqb, append-nil, append_assoc}
use Rattle.std.proofs.Math.Bool.{or_assoc}
use Rattle.std.proofs.lemmas.Bool.{eqb-true, or_cases, or_left, or_right, false≢true}
use Rattle.fed_types.specs.Lists.{Has, here, there, is_in}

-- ---- the test
-- it passes for what stands in the list
passes : {n : ℕ} {xs : List ℕ} → Has n xs → is_in xs n ≡ true
unfolding is_in
passes {n} (here {y} {ys} e) = or_left (y == n) (is_in ys n) (eq-eqb y n e)
passes {n} (there {y} {ys} h) = or_right (y == n) (is_in ys n) (passes h)

-- what passes it is in the list
stands : (xs : List ℕ) (n : ℕ) → is_in xs n ≡ true → Has n xs
unfolding is_in
stands [] n e = absurd (false≢true e)
stands (x ∷ xs) n e =
    elim (or_cases (x == n) (is_in xs n) e) [
      | inl p ↦ here (eqb-true x n p)
      | inr p ↦ there (stands xs n p)
    ]

-- it passes exactly for what is in the list
pub is_in_decides : (xs : List ℕ) (n : ℕ) → Decides (is_in xs n) (Has n xs)
is_in_decides xs n = (stands xs n, λ h. passes h)

-- nothing is in the empty list
pub is_in-nil : (n : ℕ) → is_in [] n ≡ false
unfolding is_in
is_in-nil n = refl

-- what is in two lists one after the other
pub is_in-append : (xs ys : List ℕ) (n : ℕ) → is_in (xs ++ ys) n ≡ (is_in xs n || is_in ys n)
unfolding is_in
is_in-append [] ys n = refl
is_in-append (x ∷ xs) ys n =
    ap (λ b. x == n || b) (is_in-append xs ys n)
    ∙ sym (or_assoc (x == n) (is_in xs n) (is_in ys n))

-- ---- lists of no and of one element
pub has_none : {X : Type 0} {x : X} → ¬ Has x []
has_none h = elim h [ ]

pub has_one : {X : Type 0} {x y : X} → Has x (y ∷ []) → y ≡ x
has_one (here e) = e
has_one (there h) = absurd (has_none h)

-- ---- two lists one after the other
-- what stands in the first
pub has_left : {X : Type 0} {x : X} {xs : List X} (ys : List X) → Has x xs → Has x (xs ++ ys)
has_left ys (here e) = here e
has_left ys (there h) = there (has_left ys h)

-- what is in the second
pub has_right : {X : Type 0} {x : X} (xs : List X) {ys : List X} → Has x ys → Has x (xs ++ ys)
has_right [] h = h
has_right (y ∷ xs) h = there (has_right xs h)

-- what is in both together is in one of them
pub has_cases : {X : Type 0} {x : X} (xs ys : List X) → Has x (xs ++ ys) → Has x xs ⊎ Has x ys
has_cases [] ys h = inr h
has_cases (y ∷ xs) ys (here e) = inl (here e)
has_cases (y ∷ xs) ys (there h) = elim (has_cases xs ys h) [ inl k ↦ inl (there k) | inr k ↦ inr k ]

-- ---- a part of a list
pub has_take : {X : Type 0} {x : X} (n : ℕ) (xs : List X) → Has x (take n xs) → Has x xs
has_take zero xs h = absurd (has_none h)
has_take (suc n) [] h = h
has_take (suc n) (y ∷ xs) (here e) = here e
has_take (suc n) (y ∷ xs) (there h) = there (has_take n xs h)

pub has_drop : {X : Type 0} {x : X} (n : ℕ) (xs : List X) → Has x (drop n xs) → Has x xs
has_drop zero xs h = h
has_drop (suc n) [] h = h
has_drop (suc n) (y ∷ xs) h = there (has_drop n xs h)

-- ---- the images of a list's elements
pub has_map : {X Y : Type 0} (f : X → Y) {y : Y} (xs : List X) → Has y (map f xs)
    → (x : X) × Has x xs × (f x ≡ y)
has_map f [] h = absurd (has_none h)
has_map f (x ∷ xs) (here e) = (x, here refl, e)
has_map f (x ∷ xs) (there h) = let r = has_map f xs h in (r.0, there r.1, r.2)

pub map_has : {X Y : Type 0} (f : X → Y) {x : X} {xs : List X} → Has x xs → Has (f x) (map f xs)
map_has f (here e) = here (ap f e)
map_has f (there h) = there (map_has f h)

-- ---- what some elements give
kept_in : {Y : Type 0} {y : Y} {ys : List Y} (o : Option Y) → Has y ys → Has y (cons_option o ys)
kept_in None k = k
kept_in (Some w) k = there k

pub filter_map_has : {X Y : Type 0} (f : X → Option Y) (x : X) (y : Y) (xs : List X)
    → Has x xs → f x ≡ Some y → Has y (filter_map f xs)
filter_map_has f x y [] h g = absurd (has_none h)
filter_map_has f x y (z ∷ xs) (here e) g = rw (e, g) (here refl)
filter_map_has f x y (z ∷ xs) (there h) g = kept_in (f z) (filter_map_has f x y xs h g)

-- an element gives y
abbrev Gives : {X Y : Type 0} → (X → Option Y) → Y → List X → Type 0
Gives {X} f y xs = (x : X) × Has x xs × (f x ≡ Some y)

gives_later : {X Y : Type 0} (f : X → Option Y) (y : Y) (z : X) (xs : List X)
    → Gives f y xs → Gives f y (z ∷ xs)
gives_later f y z xs r = (r.0, there r.1, r.2)

-- the first element, by what it gives
gives_more : {X Y : Type 0} (f : X → Option Y) (y : Y) (z : X) (xs : List X) (ys : List Y)
    (o : Option Y) → f z ≡ o → (Has y ys → Gives f y xs) → Has y (cons_option o ys)
    → Gives f y (z ∷ xs)
gives_more f y z xs ys None g before k = gives_later f y z xs (before k)
gives_more f y z xs ys (Some w) g before (here e) = (z, here refl, g ∙ ap Some e)
gives_more f y z xs ys (Some w) g before (there k) = gives_later f y z xs (before k)

pub has_filter_map : {X Y : Type 0} (f : X → Option Y) (y : Y) (xs : List X)
    → Has y (filter_map f xs) → (x : X) × Has x xs × (f x ≡ Some y)
has_filter_map f y [] h = absurd (has_none h)
has_filter_map f y (z ∷ xs) h =
    gives_more f y z xs (filter_map f xs) (f z) refl (λ k. has_filter_map f y xs k) h

-- ---- what a fold keeps, as its list grows at the end
module _ {A B : Type 0} (f : B → A → B) (P : List A → B → Type 0)
    (step : (xs : List A) (x : A) (b : B) → P xs b → P (xs ++ x ∷ []) (f b x)) where
  fold_from : (done : List A) (b : B) (xs : List A) → P done b → P (done ++ xs) (fold f b xs)
  fold_from done b [] h = rw append-nil h
  fold_from done b (x ∷ xs) h =
      rw append_assoc at (fold_from (done ++ x ∷ []) (f b x) xs (step done x b h))

  pub fold_keeps : (b : B) (xs : List A) → P [] b → P xs (fold f b xs)
  fold_keeps b xs h = fold_from [] b xs h
