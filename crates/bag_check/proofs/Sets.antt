-- Tests of lists, and the facts of sets that they decide.
use Rattle.std.proofs.Common.{◌≡◌, ◌≢◌, ℕ, suc, Bool, true, false, ◌||◌, List, [], ◌∷◌, map, get_or}
use Rattle.std.proofs.Common.{None, refl, sym, ap, ◌∙◌, arith, inl, inr}
use Rattle.std.specs.Prelude.{All, AllPairs, Contains, Decides, is_some}
use Rattle.std.specs.List.{list_any, find, flat_map, AllByRecursion}
use Rattle.std.specs.Str.{bytes_eq}
use Rattle.std.proofs.lemmas.Bool.{or_parts, or_from, true≢false, false_from_ne_true, cases_Bool}
use Rattle.std.proofs.lemmas.List.{get_or_default}
use Rattle.std.proofs.lemmas.List.Elements.{All-nil, All-cons, All-tail, All-map, All-weaker}
use Rattle.std.proofs.lemmas.List.Elements.{All-contains}
use Rattle.std.proofs.lemmas.List.Folds.{Any-from_list_any, list_any_at, list_any_none}
use Rattle.std.proofs.lemmas.List.Folds.{list_any-append}
use Rattle.std.proofs.lemmas.List.Kept.{AllPairs-cons}
use Rattle.std.proofs.lemmas.Slice.Eq.{bytes_eq-Decides}
use Rattle.bag_text.specs.ListedFile.{ListedFile}
use Rattle.bag_text.specs.declared.algorithm.Algorithm.{Algorithm}
use Rattle.bag_text.specs.declared.algorithm.Algorithm.TheVariants.{Md5, Sha1, Sha256, Sha512}
use Rattle.bag_check.specs.declared.manifests.Kind.{Kind}
use Rattle.bag_check.specs.declared.manifests.Kind.TheVariants.{Payload, Tag}
use Rattle.bag_check.specs.Manifests.{is_listed, kinds, algorithms}
use Rattle.bag_check.specs.Check.{repeats}

any-map : {X Y : Type 0} (p : Y → Bool) (f : X → Y) (xs : List X)
    → list_any p (map f xs) ≡ list_any (λ x. p (f x)) xs
any-map p f [] = refl
any-map p f (x ∷ xs) = ap (λ t. p (f x) || t) (any-map p f xs)

pub any-flat_map : {X Y : Type 0} (p : Y → Bool) (f : X → List Y) (xs : List X)
    → list_any p (flat_map f xs) ≡ list_any (λ x. list_any p (f x)) xs
any-flat_map p f [] = refl
any-flat_map p f (x ∷ xs) = list_any-append p (f x) (flat_map f xs)
    ∙ ap (λ t. list_any p (f x) || t) (any-flat_map p f xs)

-- where no element passes, each fails
pub all_fail : {X : Type 0} (p : X → Bool) (xs : List X) → list_any p xs ≡ false
    → All (λ x. p x ≡ false) xs
all_fail p [] h = All-nil (λ x. p x ≡ false)
all_fail p (x ∷ xs) h =
    let both = or_parts (p x) (list_any p xs) h in
    All-cons (λ y. p y ≡ false) x xs both.0 (all_fail p xs both.1)

pub all_from_map : {X Y : Type 0} (P : Y → Type 0) (f : X → Y) (xs : List X) → All P (map f xs)
    → All (λ x. P (f x)) xs
all_from_map P f [] h = All-nil (λ x. P (f x))
all_from_map P f (x ∷ xs) h =
    All-cons (λ y. P (f y)) x xs (h 0 (f x) (omega arith))
    (all_from_map P f xs (All-tail P (f x) (map f xs) h))

-- an element that equals q
pub any_contains : {X : Type 0} (E : X → X → Bool) → ((a b : X) → Decides (E a b) (a ≡ b))
    → (xs : List X) (q : X) → Decides (list_any (λ x. E x q) xs) (Contains xs q)
any_contains E same xs q = (
  λ e. let found = Any-from_list_any (λ x. E x q) xs e in (
    found.0,
    found.2,
    get_or_default xs found.0 q found.1 found.2
        ∙ (found.3 ∙ (same found.1 q).0 found.4),
  ),
  λ c. list_any_at (λ x. E x q) xs c.0 q c.1 ((same _ q).1 c.2),
)

-- an element of the path q
pub any_path : {X : Type 0} (path_of : X → List ℕ) (xs : List X) (q : List ℕ)
    → Decides (list_any (λ x. bytes_eq (path_of x) q) xs) (Contains (map path_of xs) q)
any_path path_of xs q =
    rw (← any-map (λ p. bytes_eq p q) path_of xs)
    (any_contains bytes_eq bytes_eq-Decides (map path_of xs) q)

-- the path of an element
pub path_at : {X : Type 0} (path_of : X → List ℕ) (xs : List X)
    → All (λ x. Contains (map path_of xs) (path_of x)) xs
path_at {X} path_of xs k d within =
    let x : X = get_or xs k d in
    (any_path path_of xs (path_of x)).0
    (list_any_at (λ y. bytes_eq (path_of y) (path_of x)) xs k d within
    ((bytes_eq-Decides (path_of x) (path_of x)).1 refl))

pub is_some-find : {X : Type 0} (p : X → Bool) (xs : List X) → is_some (find p xs) ≡ list_any p xs
is_some-find p [] = refl
is_some-find p (x ∷ xs) = elim (cases_Bool (p x)) [
  | inl is ↦ rw is refl
  | inr isnt ↦ rw isnt (is_some-find p xs)
]

pub none-find : {X : Type 0} (p : X → Bool) (xs : List X) → AllByRecursion (λ x. p x ≡ false) xs
    → find p xs ≡ None
none-find p [] h = refl
none-find p (x ∷ xs) h = rw (h.0) (none-find p xs h.1)

-- ---- all kinds, and all algorithms

pub in_kinds : (kind : Kind) → Contains kinds kind
in_kinds Payload = (0, omega arith, refl)
in_kinds Tag = (1, omega arith, refl)

pub in_algorithms : (algorithm : Algorithm) → Contains algorithms algorithm
in_algorithms Md5 = (0, omega arith, refl)
in_algorithms Sha1 = (1, omega arith, refl)
in_algorithms Sha256 = (2, omega arith, refl)
in_algorithms Sha512 = (3, omega arith, refl)

-- one that passes, and one that fails as all do
pub any_one : {X : Type 0} (p : X → Bool) (xs : List X) (x : X) → Contains xs x → p x ≡ true
    → list_any p xs ≡ true
any_one p xs x c h = list_any_at p xs c.0 x c.1 (rw c.2 h)

pub one_fails : {X : Type 0} (p : X → Bool) (xs : List X) (x : X) → Contains xs x
    → list_any p xs ≡ false → p x ≡ false
one_fails p xs x c h = All-contains (λ y. p y ≡ false) xs x (all_fail p xs h) c

-- ---- paths that are listed once

abbrev pub HasNoRepeats : List ListedFile → Type 0
HasNoRepeats entries = AllPairs (λ a b. a ≢ b) (map (λ entry. entry.path) entries)

pub repeats-once : (entries : List ListedFile) → repeats entries ≡ false → HasNoRepeats entries
unfolding repeats
repeats-once [] h = λ i j d less within. absurd (omega arith)
repeats-once (entry ∷ entries) h =
    let both = or_parts (is_listed entry.path entries) (repeats entries) h in
    AllPairs-cons (λ a b. a ≢ b) entry.path (map (λ e. e.path) entries)
    (All-map (λ b. entry.path ≢ b) (λ (e : ListedFile). e.path) entries
    (All-weaker (λ (e : ListedFile). bytes_eq e.path entry.path ≡ false)
    (λ (e : ListedFile). entry.path ≢ e.path)
    (λ e differ same. true≢false (sym ((bytes_eq-Decides e.path entry.path).1 (sym same)) ∙ differ))
    entries
    (all_fail (λ (e : ListedFile). bytes_eq e.path entry.path) entries both.0)))
    (repeats-once entries both.1)

pub once-repeats : (entries : List ListedFile) → HasNoRepeats entries → repeats entries ≡ false
unfolding repeats
once-repeats [] h = refl
once-repeats (entry ∷ entries) h =
    let others : All (λ b. entry.path ≢ b) (map (λ (e : ListedFile). e.path) entries) =
    λ k d within. h 0 (suc k) d (omega arith) (omega arith) in
    or_from (is_listed entry.path entries) (repeats entries)
    (list_any_none (λ (e : ListedFile). bytes_eq e.path entry.path) entries
    (All-weaker (λ (e : ListedFile). entry.path ≢ e.path)
    (λ (e : ListedFile). bytes_eq e.path entry.path ≡ false)
    (λ e differ. false_from_ne_true (bytes_eq e.path entry.path)
    (λ same. differ (sym ((bytes_eq-Decides e.path entry.path).0 same)))) entries
    (all_from_map (λ b. entry.path ≢ b) (λ (e : ListedFile). e.path) entries others)))
    (once-repeats entries (λ i j d less within. h (suc i) (suc j) d (omega arith) (omega arith)))
