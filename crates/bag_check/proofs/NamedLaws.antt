-- Facts without the digests that no manifest asks for: the answer is the same.
use Rattle.std.proofs.Common.{◌≡◌, ℕ, Bool, true, false, not, List, [], ◌∷◌, map, Option, Some}
use Rattle.std.proofs.Common.{None, Result, Ok, Err, refl, sym, ap, ◌∙◌, inl, inr}
use Rattle.std.specs.Prelude.{codes, is_some, unwrap_or}
use Rattle.std.specs.List.{list_any, find, flat_map, AllByRecursion}
use Rattle.std.specs.Option.{option_map}
use Rattle.std.specs.Str.{bytes_eq}
use Rattle.sha2.specs.Sha512.{sha512}
use Rattle.bag_text.specs.declared.algorithm.Algorithm.{Algorithm}
use Rattle.bag_text.specs.declared.algorithm.Algorithm.TheVariants.{Md5, Sha1, Sha256, Sha512}
use Rattle.bag_text.specs.ListedFile.{ListedFile}
use Rattle.bag_tree.specs.declared.algorithms.Algorithms.{Algorithms}
use Rattle.bag_tree.specs.declared.digests.Digests.{Digests}
use Rattle.bag_tree.specs.Algorithms.{has_algorithm}
use Rattle.bag_tree.specs.Digests.{digest_by, is_digest}
use Rattle.bag_tree.specs.Tree.{File, Files, payload_exists}
use Rattle.bag_tree.specs.Facts.{FileFact, TreeFacts, fact_by, fact_of_file, facts_of_tree}
use Rattle.bag_check.specs.declared.fault.BagFault.{BagFault}
use Rattle.bag_check.specs.declared.fault.BagFault.TheVariants as faults
use Rattle.bag_check.specs.Manifests.{Manifest, file_at, has_file, text_at, sha512_manifest}
use Rattle.bag_check.specs.Manifests.{manifest_name, manifest_in, manifest_at, manifests_of_kind}
use Rattle.bag_check.specs.Manifests.{manifests_of, kinds, algorithms, entries, passes, is_unknown}
use Rattle.bag_check.specs.Check.{has_other_digest, is_wrong, is_missing, is_unlisted, if_payload}
use Rattle.bag_check.specs.Check.{declaration_in, is_bad_declaration, declares_other}
use Rattle.bag_check.specs.Check.{is_supported_version, is_supported_encoding, some_manifest, holds}
use Rattle.bag_check.specs.Check.{all_faults, first_fault, answer, check_of}
use Rattle.bag_check.specs.Named.{named_of, only, with_only, only_named, named_facts_of}
use Rattle.std.proofs.lemmas.Bool.{cases_Bool}
use Rattle.std.proofs.lemmas.Simd.{map-map}
use Rattle.bag_check.proofs.Repeats.{same_any}
use Rattle.bag_check.proofs.NamedManifests.{all_weaker, all_true, paths_of, IsNamed, all_named}

-- ---- lists, element by element

pub flat_same : {X Y : Type 0} (f g : X → List Y) → ((x : X) → f x ≡ g x) → (xs : List X)
    → flat_map f xs ≡ flat_map g xs
flat_same f g same [] = refl
flat_same f g same (x ∷ xs) = rw (same x, flat_same f g same xs) refl

-- of tests that agree the first one is found alike
pub find_same : {X : Type 0} (p q : X → Bool) (xs : List X) → AllByRecursion (λ x. p x ≡ q x) xs
    → find p xs ≡ find q xs
find_same p q [] same = refl
find_same p q (x ∷ xs) (first, others) = rw (first, find_same p q xs others) refl

-- ---- what is known of the files, but for some digests

module _ (wanted : Algorithms) where
  abbrev pub fewer : List FileFact → List FileFact
  fewer files = map (with_only wanted) files

  -- what is asked of a file that is found, but for those digests
  same_found : {X : Type 0} (f : Option FileFact → X)
      → ((file : FileFact) → f (Some (with_only wanted file)) ≡ f (Some file))
      → (path : List ℕ) (files : List FileFact)
      → f (file_at path (fewer files)) ≡ f (file_at path files)
  same_found f same path [] = refl
  same_found f same path (file ∷ files) = elim (cases_Bool (bytes_eq file.path path)) [
    | inl here ↦ rw here (same file)
    | inr other ↦ rw other (same_found f same path files)
  ]

  pub same_file : (path : List ℕ) (files : List FileFact)
      → has_file path (fewer files) ≡ has_file path files
  same_file path files = same_found is_some (λ file. refl) path files

  pub same_text : (path : List ℕ) (files : List FileFact)
      → text_at path (fewer files) ≡ text_at path files
  same_text path files =
      same_found (option_map (λ f. unwrap_or f.text [])) (λ file. refl) path files

  -- a test that asks for no digest
  pub same_of_files : (test : FileFact → Bool)
      → ((file : FileFact) → test (with_only wanted file) ≡ test file) → (files : List FileFact)
      → list_any test (fewer files) ≡ list_any test files
  same_of_files test same [] = refl
  same_of_files test same (file ∷ files) = rw (same file, same_of_files test same files) refl

  pub same_manifests : (files : List FileFact)
      → manifests_of (fewer files) ≡ manifests_of files
  unfolding manifests_of manifests_of_kind manifest_at
  same_manifests files =
      flat_same (λ kind. manifests_of_kind kind (fewer files))
      (λ kind. manifests_of_kind kind files)
      (λ kind. flat_same (λ algorithm. manifest_at kind algorithm (fewer files))
      (λ algorithm. manifest_at kind algorithm files)
      (λ algorithm. ap (manifest_in kind algorithm)
      (same_text (manifest_name kind algorithm) files)) algorithms) kinds

  -- a digest that is wanted
  kept : (algorithm : Algorithm) (digests : Digests) → has_algorithm algorithm wanted ≡ true
      → digest_by algorithm (only wanted digests) ≡ digest_by algorithm digests
  kept Md5 digests h = rw h refl
  kept Sha1 digests h = rw h refl
  kept Sha256 digests h = rw h refl
  kept Sha512 digests h = rw h refl

  -- an entry of a manifest whose algorithm is wanted
  pub same_wrong : (algorithm : Algorithm) (files : List FileFact)
      → has_algorithm algorithm wanted ≡ true → (entry : ListedFile)
      → is_wrong algorithm (fewer files) entry ≡ is_wrong algorithm files entry
  same_wrong algorithm files h entry =
      same_found (has_other_digest algorithm entry.digest)
      (λ file. ap (λ (d : Option (List ℕ)). not (is_digest entry.digest d))
      (kept algorithm file.digests h)) entry.path files

-- ---- the faults

-- a test of what each manifest lists
some_same : (p q : Manifest → List ListedFile → Bool) (manifests : List Manifest)
    → AllByRecursion (λ m. (es : List ListedFile) → p m es ≡ q m es) manifests
    → list_any (λ m. passes (p m) (entries m)) manifests
    ≡ list_any (λ m. passes (q m) (entries m)) manifests
some_same p q [] all = refl
some_same p q (m ∷ ms) (first, others) = rw (go (entries m), some_same p q ms others) refl
  where
    go : (read : Result (List ListedFile) ℕ) → passes (p m) read ≡ passes (q m) read
    go (Ok es) = first es
    go (Err line) = refl

-- the fault is one that needs no digest
abbrev pub needs_no_digest : BagFault → Bool
needs_no_digest faults.WrongDigest = false
needs_no_digest fault = true

module _ (wanted : Algorithms) (facts : TreeFacts) where
  abbrev files : List FileFact
  files = fewer wanted facts.files

  -- the facts without the digests that aren't wanted
  abbrev pub bare : TreeFacts
  bare = record { files = files; payload = facts.payload }

  -- a test that the manifests pass alike
  some_kept : (p q : Manifest → List ListedFile → Bool)
      → AllByRecursion (λ m. (es : List ListedFile) → p m es ≡ q m es) (manifests_of facts.files)
      → some_manifest p files ≡ some_manifest q facts.files
  some_kept p q all =
      rw (same_manifests wanted facts.files) (some_same p q (manifests_of facts.files) all)

  any_kept : (p q : Manifest → List ListedFile → Bool)
      → ((m : Manifest) (es : List ListedFile) → p m es ≡ q m es)
      → some_manifest p files ≡ some_manifest q facts.files
  any_kept p q same =
      some_kept p q
      (all_true (λ (m : Manifest). (es : List ListedFile) → p m es ≡ q m es) same
      (manifests_of facts.files))

  declared_same : declaration_in bare ≡ declaration_in facts
  declared_same = same_text wanted (codes "bagit.txt") facts.files

  -- no other fault needs a digest
  pub holds_same : (fault : BagFault) → needs_no_digest fault ≡ true
      → holds fault bare ≡ holds fault facts
  unfolding holds is_unknown
  holds_same faults.NoDeclaration other =
      ap not (same_file wanted (codes "bagit.txt") facts.files)
  holds_same faults.BadDeclaration other = ap is_bad_declaration declared_same
  holds_same faults.UnsupportedVersion other =
      ap (declares_other (λ version encoding. is_supported_version version)) declared_same
  holds_same faults.UnsupportedEncoding other =
      ap (declares_other (λ version encoding. is_supported_encoding encoding)) declared_same
  holds_same faults.HasFetch other = same_file wanted (codes "fetch.txt") facts.files
  holds_same faults.NoPayloadFolder other = refl
  holds_same faults.NoSha512Manifest other = ap not (same_file wanted sha512_manifest facts.files)
  holds_same faults.UnknownAlgorithm other =
      same_of_files wanted is_unknown (λ file. refl) facts.files
  holds_same faults.MalformedLine other = rw (same_manifests wanted facts.files) refl
  holds_same faults.UnsafePath other = rw (same_manifests wanted facts.files) refl
  holds_same faults.DuplicateEntry other = rw (same_manifests wanted facts.files) refl
  holds_same faults.MissingFile other =
      any_kept (λ manifest entries. list_any (is_missing files) entries)
      (λ manifest entries. list_any (is_missing facts.files) entries)
      (λ m es. same_any (is_missing files) (is_missing facts.files)
      (λ entry. ap not (same_file wanted entry.path facts.files)) es)
  holds_same faults.UnlistedFile other =
      any_kept
      (λ manifest entries. if_payload manifest.kind (list_any (is_unlisted entries) files))
      (λ manifest entries. if_payload manifest.kind (list_any (is_unlisted entries) facts.files))
      (λ m es. ap (if_payload m.kind)
      (same_of_files wanted (is_unlisted es) (λ file. refl) facts.files))
  holds_same faults.WrongDigest other = absurd (cc other)
  holds_same faults.Memory other = refl

  pub answer_same : (fault : Option BagFault) → answer bare fault ≡ answer facts fault
  answer_same None =
      ap (λ (text : Option (List ℕ)). Ok (record { 0 = sha512 (unwrap_or text []) }))
      (same_text wanted sha512_manifest facts.files)
  answer_same (Some fault) = refl

-- ---- facts with the digests that manifests name

module _ (facts : TreeFacts) where
  abbrev pub named : Algorithms
  named = named_of (paths_of facts.files)

  pub declared_kept : declaration_in (only_named facts) ≡ declaration_in facts
  declared_kept = same_text named (codes "bagit.txt") facts.files

  pub holds_kept : (fault : BagFault) → holds fault (only_named facts) ≡ holds fault facts
  unfolding holds
  holds_kept faults.WrongDigest =
      let files : List FileFact = fewer named facts.files in
      some_kept named facts
      (λ manifest entries. list_any (is_wrong manifest.algorithm files) entries)
      (λ manifest entries. list_any (is_wrong manifest.algorithm facts.files) entries)
      (all_weaker (IsNamed facts.files)
      (λ (m : Manifest). (es : List ListedFile)
      → list_any (is_wrong m.algorithm files) es ≡ list_any (is_wrong m.algorithm facts.files) es)
      (λ m is es. same_any (is_wrong m.algorithm files) (is_wrong m.algorithm facts.files)
      (same_wrong named m.algorithm facts.files is) es)
      (manifests_of facts.files) (all_named facts.files))
  holds_kept fault = holds_same named facts fault refl

  first_kept : first_fault (only_named facts) ≡ first_fault facts
  first_kept =
      find_same (λ fault. holds fault (only_named facts)) (λ fault. holds fault facts) all_faults
      (all_true (λ fault. holds fault (only_named facts) ≡ holds fault facts) holds_kept all_faults)

  -- the verdict needs no digest that isn't named
  pub check_kept : check_of (only_named facts) ≡ check_of facts
  unfolding check_of
  check_kept =
      ap (answer (only_named facts)) first_kept ∙ answer_same named facts (first_fault facts)

-- ---- hashing only what is named

hashed : (wanted : Algorithms) (files : List File)
    → map (fact_by wanted) files ≡ fewer wanted (map fact_of_file files)
hashed wanted files = sym (map-map (with_only wanted) fact_of_file files)

paths_kept : (files : List File)
    → map (λ file. file.path) files ≡ paths_of (map fact_of_file files)
paths_kept files = sym (map-map (λ (file : FileFact). file.path) fact_of_file files)

-- what is hashed so is what is left of all
pub named_facts : (tree : Files) → named_facts_of tree ≡ only_named (facts_of_tree tree)
named_facts tree =
    ap (λ files. record { files = files; payload = payload_exists tree })
    (hashed (named_of (map (λ file. file.path) tree.files)) tree.files
    ∙ ap (λ paths. fewer (named_of paths) (map fact_of_file tree.files)) (paths_kept tree.files))

pub check_named : (tree : Files) → check_of (named_facts_of tree) ≡ check_of (facts_of_tree tree)
check_named tree = ap check_of (named_facts tree) ∙ check_kept (facts_of_tree tree)
