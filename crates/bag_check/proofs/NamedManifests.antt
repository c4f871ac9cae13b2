-- The manifests of a tree are of algorithms that its paths name.
use Rattle.std.proofs.Common.{◌≡◌, ℕ, true, List, [], ◌∷◌, ◌++◌, map, Option, Some, None, refl, sym}
use Rattle.std.proofs.Common.{ap, inl, inr}
use Rattle.std.specs.Prelude.{is_some, unwrap_or}
use Rattle.std.specs.List.{list_any, flat_map, AllByRecursion}
use Rattle.std.specs.Option.{option_map}
use Rattle.std.specs.Str.{bytes_eq}
use Rattle.std.proofs.Math.Bool.{or-true}
use Rattle.std.proofs.lemmas.Bool.{cases_Bool, true≢false}
use Rattle.bag_text.specs.declared.algorithm.Algorithm.{Algorithm}
use Rattle.bag_text.specs.declared.algorithm.Algorithm.TheVariants.{Md5}
use Rattle.bag_tree.specs.Algorithms.{has_algorithm}
use Rattle.bag_tree.specs.Facts.{FileFact}
use Rattle.bag_check.specs.declared.manifests.Kind.{Kind}
use Rattle.bag_check.specs.declared.manifests.Kind.TheVariants.{Payload, Tag}
use Rattle.bag_check.specs.Manifests.{Manifest, file_at, has_file, kinds, algorithms, manifest_name}
use Rattle.bag_check.specs.Manifests.{manifest_in, manifest_at, manifests_of_kind, manifests_of}
use Rattle.bag_check.specs.Named.{asks, named_of}

-- ---- a property of all elements

all_append : {X : Type 0} (P : X → Type 0) (a b : List X) → AllByRecursion P a
    → AllByRecursion P b → AllByRecursion P (a ++ b)
all_append P [] b none all = all
all_append P (x ∷ a) b (first, others) all = (first, all_append P a b others all)

all_flat : {X Y : Type 0} (P : Y → Type 0) (f : X → List Y)
    → ((x : X) → AllByRecursion P (f x)) → (xs : List X) → AllByRecursion P (flat_map f xs)
all_flat P f each [] = tt
all_flat P f each (x ∷ xs) =
    all_append P (f x) (flat_map f xs) (each x) (all_flat P f each xs)

-- what all elements have that have another
pub all_weaker : {X : Type 0} (P Q : X → Type 0) → ((x : X) → P x → Q x) → (xs : List X)
    → AllByRecursion P xs → AllByRecursion Q xs
all_weaker P Q from [] all = tt
all_weaker P Q from (x ∷ xs) (first, others) = (from x first, all_weaker P Q from xs others)

-- what every value has
pub all_true : {X : Type 0} (P : X → Type 0) → ((x : X) → P x) → (xs : List X)
    → AllByRecursion P xs
all_true P each [] = tt
all_true P each (x ∷ xs) = (each x, all_true P each xs)

-- ---- the names

abbrev pub paths_of : List FileFact → List (List ℕ)
paths_of files = map (λ file. file.path) files

asks_by_name : (kind : Kind) (algorithm : Algorithm) (path : List ℕ)
    → bytes_eq path (manifest_name kind algorithm) ≡ true → asks algorithm path ≡ true
unfolding asks
asks_by_name Payload algorithm path h = rw h refl
asks_by_name Tag algorithm path h = rw h (or-true (bytes_eq path (manifest_name Payload algorithm)))

-- where the manifest is there, its name asks
asked : (kind : Kind) (algorithm : Algorithm) (files : List FileFact)
    → has_file (manifest_name kind algorithm) files ≡ true
    → list_any (asks algorithm) (paths_of files) ≡ true
asked kind algorithm [] h = absurd (true≢false (sym h))
asked kind algorithm (file ∷ files) h =
    elim (cases_Bool (bytes_eq file.path (manifest_name kind algorithm))) [
      | inl here ↦ rw (asks_by_name kind algorithm file.path here) refl
      | inr other ↦
          rw (asked kind algorithm files (rw other at h)) (or-true (asks algorithm file.path))
    ]

named : (algorithm : Algorithm) (paths : List (List ℕ))
    → list_any (asks algorithm) paths ≡ true → has_algorithm algorithm (named_of paths) ≡ true
named Md5 paths h = h
named _ paths h = h

-- ---- the manifests

module _ (files : List FileFact) where
  -- the manifest's algorithm is named
  abbrev pub IsNamed : Manifest → Type 0
  IsNamed manifest = has_algorithm manifest.algorithm (named_of (paths_of files)) ≡ true

  of_one : (kind : Kind) (algorithm : Algorithm) (file : Option FileFact)
      → file_at (manifest_name kind algorithm) files ≡ file
      → AllByRecursion IsNamed
      (manifest_in kind algorithm (option_map (λ f. unwrap_or f.text []) file))
  of_one kind algorithm None is = tt
  of_one kind algorithm (Some file) is =
      (named algorithm (paths_of files) (asked kind algorithm files (ap is_some is)), tt)

  -- each manifest's algorithm is
  pub all_named : AllByRecursion IsNamed (manifests_of files)
  unfolding manifests_of manifests_of_kind manifest_at
  all_named =
      all_flat IsNamed (λ kind. manifests_of_kind kind files)
      (λ kind. all_flat IsNamed (λ algorithm. manifest_at kind algorithm files)
      (λ algorithm. of_one kind algorithm (file_at (manifest_name kind algorithm) files) refl)
      algorithms) kinds
