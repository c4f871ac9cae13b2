-- The manifests of a valid bag, by the faults.
use Rattle.std.proofs.Common.{◌≡◌, ℕ, Bool, true, false, ◌&&◌, not, List, map, get_or, Option, Some}
use Rattle.std.proofs.Common.{None, refl, sym, ◌∙◌}
use Rattle.std.specs.Prelude.{All, Decides, is_some}
use Rattle.std.specs.List.{list_any}
use Rattle.std.specs.Str.{bytes_eq}
use Rattle.std.proofs.lemmas.Bool.{or_parts, or_from, and_parts, true≢false, false_from_ne_true}
use Rattle.std.proofs.lemmas.Bool.{not-false, not_from_true}
use Rattle.std.proofs.lemmas.List.Elements.{All-map, All-contains}
use Rattle.std.proofs.lemmas.List.Folds.{list_any_none}
use Rattle.std.proofs.lemmas.Slice.Eq.{bytes_eq-Decides}
use Rattle.bag_text.specs.declared.algorithm.Algorithm.{Algorithm}
use Rattle.bag_text.specs.ListedFile.{ListedFile}
use Rattle.bag_tree.specs.Path.{is_unsafe, is_payload}
use Rattle.bag_tree.specs.Digests.{digest_by, is_digest}
use Rattle.bag_tree.specs.Facts.{FileFact, TreeFacts}
use Rattle.bag_check.specs.declared.manifests.Kind.{Kind}
use Rattle.bag_check.specs.declared.manifests.Kind.TheVariants.{Payload, Tag}
use Rattle.bag_check.specs.Manifests.{Manifest, file_at, has_file, text_at, algorithms, kinds}
use Rattle.bag_check.specs.Manifests.{manifest_name, manifest_in, manifest_at, manifests_of}
use Rattle.bag_check.specs.Manifests.{manifests_of_kind, is_listed}
use Rattle.bag_check.specs.Check.{is_astray, is_on_wrong_side, repeats, is_unlisted}
use Rattle.bag_check.specs.Check.{has_other_digest, is_wrong, is_missing, if_payload}
use Rattle.bag_check.specs.Valid.{IsFile, IsPayloadFile, IsTagFile, HasText, ListsFiles, IsDigested}
use Rattle.bag_check.specs.Valid.{IsListing}
use Rattle.bag_check.proofs.Repeats.{same_any}
use Rattle.bag_check.proofs.Sets.{all_fail, all_from_map, any-flat_map, any_path, path_at}
use Rattle.bag_check.proofs.Sets.{is_some-find, repeats-once, once-repeats, in_kinds, in_algorithms}
use Rattle.bag_check.proofs.Sets.{one_fails}

-- ---- a test of every manifest

module _ (p : Manifest → Bool) (facts : TreeFacts) where
  abbrev manifest : Kind → Algorithm → List ℕ → Manifest
  manifest kind algorithm text = record { kind = kind; algorithm = algorithm; text = text }

  abbrev of_kind : Kind → Bool
  of_kind kind = list_any (λ a. list_any p (manifest_at kind a facts.files)) algorithms

  any_is : list_any p (manifests_of facts.files) ≡ list_any of_kind kinds
  unfolding manifests_of manifests_of_kind
  any_is =
      any-flat_map p (λ kind. manifests_of_kind kind facts.files) kinds
      ∙ same_any (λ kind. list_any p (manifests_of_kind kind facts.files)) of_kind
      (λ kind. any-flat_map p (λ a. manifest_at kind a facts.files) algorithms) kinds

  -- where no manifest passes the test, each that is there fails it
  pub each_fails : list_any p (manifests_of facts.files) ≡ false
      → (kind : Kind) (algorithm : Algorithm) (text : List ℕ)
      → HasText facts (manifest_name kind algorithm) text → p (manifest kind algorithm text) ≡ false
  unfolding manifest_at
  each_fails h kind algorithm text there =
      let of_one =
      one_fails (λ a. list_any p (manifest_at kind a facts.files)) algorithms algorithm
      (in_algorithms algorithm)
      (one_fails of_kind kinds kind (in_kinds kind) (sym any_is ∙ h)) in
      (or_parts (p (manifest kind algorithm text)) false (rw there at of_one)).0

  here : (kind : Kind) (algorithm : Algorithm) (text : Option (List ℕ))
      → ((bytes : List ℕ) → text ≡ Some bytes → p (manifest kind algorithm bytes) ≡ false)
      → list_any p (manifest_in kind algorithm text) ≡ false
  here kind algorithm None h = refl
  here kind algorithm (Some bytes) h =
      or_from (p (manifest kind algorithm bytes)) false (h bytes refl) refl

  -- where each manifest that is there fails the test, none passes it
  pub none_passes : ((kind : Kind) (algorithm : Algorithm) (text : List ℕ)
      → HasText facts (manifest_name kind algorithm) text
      → p (manifest kind algorithm text) ≡ false) → list_any p (manifests_of facts.files) ≡ false
  unfolding manifest_at
  none_passes h =
      any_is
      ∙ list_any_none of_kind kinds
      (λ i k inside.
      let kind : Kind = get_or kinds i k in
      list_any_none (λ a. list_any p (manifest_at kind a facts.files)) algorithms
      (λ j a within.
      let algorithm : Algorithm = get_or algorithms j a in
      here kind algorithm (text_at (manifest_name kind algorithm) facts.files)
      (h kind algorithm)))

-- ---- what one manifest lists

-- a file of this path, by the test and by the fact
pub file_decides : (facts : TreeFacts) (path : List ℕ)
    → Decides (has_file path facts.files) (IsFile facts path)
file_decides facts path =
    rw (is_some-find (λ (file : FileFact). bytes_eq file.path path) facts.files)
    (any_path (λ (file : FileFact). file.path) facts.files path)

module _ (facts : TreeFacts) (kind : Kind) (algorithm : Algorithm) (entries : List ListedFile) where
  -- the entries pass no test of a fault
  pub record IsFaultless : Type 0 where
    pub astray : list_any (is_astray kind) entries ≡ false
    pub repeat : if_payload kind (repeats entries) ≡ false
    pub missing : list_any (is_missing facts.files) entries ≡ false
    pub unlisted : if_payload kind (list_any (is_unlisted entries) facts.files) ≡ false
    pub wrong : list_any (is_wrong algorithm facts.files) entries ≡ false

and_not : (a b : Bool) → a ≡ true → (a && not b) ≡ false → b ≡ true
and_not true true p h = refl
and_not _ _ p h = cc

abbrev path_of : ListedFile → List ℕ
path_of entry = entry.path

module _ (facts : TreeFacts) (entries : List ListedFile) where
  abbrev paths : List (List ℕ)
  paths = map path_of entries

  -- where no entry's file is missing, each is there
  all_there : list_any (is_missing facts.files) entries ≡ false
      → All (λ (entry : ListedFile). IsFile facts entry.path) entries
  all_there missing k d within =
      (file_decides facts (get_or entries k d).path).0
      (not-false (has_file (get_or entries k d).path facts.files)
      (all_fail (is_missing facts.files) entries missing k d within))

  on_side : (kind : Kind) → list_any (is_astray kind) entries ≡ false
      → All (λ (entry : ListedFile). is_on_wrong_side kind entry.path ≡ false) entries
  on_side kind astray k d within =
      (or_parts _ _ (all_fail (is_astray kind) entries astray k d within)).1

  lists : (kind : Kind) → list_any (is_astray kind) entries ≡ false
      → if_payload kind (repeats entries) ≡ false
      → list_any (is_missing facts.files) entries ≡ false
      → if_payload kind (list_any (is_unlisted entries) facts.files) ≡ false
      → ListsFiles kind facts paths
  lists Payload astray repeat missing unlisted = (
    repeats-once entries repeat,
    λ path. (
      λ listed. All-contains (IsPayloadFile facts) paths path
          (All-map (IsPayloadFile facts) path_of entries
          (λ k d within. (
            all_there missing k d within,
            not-false (is_payload (get_or entries k d).path) (on_side Payload astray k d within),
          ))) listed,
      λ there. (any_path path_of entries path).0
          (and_not (is_payload path) (is_listed path entries) there.1
          (All-contains (λ q. (is_payload q && not (is_listed q entries)) ≡ false)
          (map (λ (file : FileFact). file.path) facts.files) path
          (All-map (λ q. (is_payload q && not (is_listed q entries)) ≡ false)
          (λ (file : FileFact). file.path) facts.files
          (all_fail (is_unlisted entries) facts.files unlisted)) there.0)),
    ),
  )
  lists Tag astray repeat missing unlisted =
      All-map (IsTagFile facts) path_of entries
      (λ k d within. (
        all_there missing k d within,
        λ inside. cc (inside, on_side Tag astray k d within),
      ))

  on_side_from : (kind : Kind) → ListsFiles kind facts paths
      → All (λ (entry : ListedFile). is_on_wrong_side kind entry.path ≡ false) entries
  on_side_from Payload files k d within =
      let path : List ℕ = (get_or entries k d).path in
      not_from_true (is_payload path) ((files.1 path).0 (path_at path_of entries k d within)).1
  on_side_from Tag files k d within =
      false_from_ne_true (is_payload (get_or entries k d).path)
      (all_from_map (IsTagFile facts) path_of entries files k d within).1

  no_repeat_from : (kind : Kind) → ListsFiles kind facts paths
      → if_payload kind (repeats entries) ≡ false
  no_repeat_from Payload files = once-repeats entries files.0
  no_repeat_from Tag files = refl

  none_unlisted_from : (kind : Kind) → ListsFiles kind facts paths
      → if_payload kind (list_any (is_unlisted entries) facts.files) ≡ false
  none_unlisted_from Payload files =
      list_any_none (is_unlisted entries) facts.files
      (λ k d within.
      let path : List ℕ = (get_or facts.files k d).path in
      false_from_ne_true (is_payload path && not (is_listed path entries))
      (λ both.
      let parts = and_parts (is_payload path) (not (is_listed path entries)) both in
      let listed : is_listed path entries ≡ true =
      (any_path path_of entries path).1
      ((files.1 path).1
      (path_at (λ (file : FileFact). file.path) facts.files k d within, parts.0)) in
      true≢false (sym parts.1 ∙ not_from_true (is_listed path entries) listed)))
  none_unlisted_from Tag files = refl

-- a digest that is known and is this one
digest_is : (digest : List ℕ) (known : Option (List ℕ)) → is_digest digest known ≡ true
    → known ≡ Some digest
digest_is digest None h = absurd (true≢false (sym h))
digest_is digest (Some known) h =
    rw ((bytes_eq-Decides known digest).0 h) refl

is_that_digest : (digest : List ℕ) (known : Option (List ℕ)) → known ≡ Some digest
    → is_digest digest known ≡ true
is_that_digest digest known h = rw (h, (bytes_eq-Decides digest digest).1 refl) refl

module _ (facts : TreeFacts) (kind : Kind) (algorithm : Algorithm) (entries : List ListedFile) where
  digested : (entry : ListedFile) (file : Option FileFact) → file_at entry.path facts.files ≡ file
      → is_some file ≡ true → has_other_digest algorithm entry.digest file ≡ false
      → IsDigested facts algorithm entry
  digested entry None is there same = absurd (true≢false (sym there))
  digested entry (Some file) is there same = (
    file,
    is,
    digest_is entry.digest (digest_by algorithm file.digests)
        (not-false (is_digest entry.digest (digest_by algorithm file.digests)) same),
  )

  -- entries that pass no test of a fault are a listing
  pub listing : IsFaultless facts kind algorithm entries → IsListing facts kind algorithm entries
  listing h = record {
    safe = λ k d within inside.
        let sound = all_fail (is_astray kind) entries h.astray k d within in
        true≢false (sym inside ∙ (or_parts _ _ sound).0);
    files = lists facts entries kind h.astray h.repeat h.missing h.unlisted;
    digests = λ k d within.
        let entry : ListedFile = get_or entries k d in
        digested entry (file_at entry.path facts.files) refl
        (not-false (has_file entry.path facts.files)
        (all_fail (is_missing facts.files) entries h.missing k d within))
        (all_fail (is_wrong algorithm facts.files) entries h.wrong k d within);
  }

  -- the entries of a listing pass no test of a fault
  pub faultless : IsListing facts kind algorithm entries → IsFaultless facts kind algorithm entries
  faultless h = record {
    astray = list_any_none (is_astray kind) entries
        (λ k d within.
        let entry : ListedFile = get_or entries k d in
        or_from (is_unsafe entry.path) (is_on_wrong_side kind entry.path)
        (false_from_ne_true (is_unsafe entry.path) (h.safe k d within))
        (on_side_from facts entries kind h.files k d within));
    repeat = no_repeat_from facts entries kind h.files;
    missing = list_any_none (is_missing facts.files) entries
        (λ k d within. rw (h.digests k d within).1 refl);
    unlisted = none_unlisted_from facts entries kind h.files;
    wrong = list_any_none (is_wrong algorithm facts.files) entries
        (λ k d within.
        let entry : ListedFile = get_or entries k d in
        let is = h.digests k d within in
        rw is.1
        (rw (is_that_digest entry.digest (digest_by algorithm (is.0).digests) is.2) refl));
  }
