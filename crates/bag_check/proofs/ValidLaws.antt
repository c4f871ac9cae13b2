-- A tree is a valid bag exactly where no fault holds.
use Rattle.std.proofs.Common.{◌≡◌, ℕ, Bool, true, false, ◌&&◌, not, List, [], map, get_or, Option}
use Rattle.std.proofs.Common.{Some, None, Result, Ok, Err, refl, sym, ap, ◌∙◌, inl, inr, pred, ◌⊎◌}
use Rattle.std.proofs.Common.{arith}
use Rattle.std.specs.Prelude.{Contains, Decides, is_some, is_err, unwrap_or, codes, IfOk}
use Rattle.std.specs.Prelude.{MatchResult}
use Rattle.std.specs.List.{list_any}
use Rattle.std.specs.Option.{option_map}
use Rattle.std.specs.Str.{bytes_eq, str_to_ascii_lowercase}
use Rattle.std.proofs.lemmas.Bool.{and_parts, true≢false, false_from_ne_true, not-false}
use Rattle.std.proofs.lemmas.Bool.{not_from_true}
use Rattle.std.proofs.lemmas.Bool.Decides.{Decides-or}
use Rattle.std.proofs.lemmas.List.Elements.{All-map, All-contains, recursion_from_All}
use Rattle.std.proofs.lemmas.List.Folds.{list_any_none}
use Rattle.std.proofs.lemmas.Slice.Eq.{bytes_eq-Decides}
use Rattle.fed_types.specs.declared.bag_id.BagId.{BagId}
use Rattle.fed_types.specs.Faults.{IsOrFault}
use Rattle.bag_text.specs.declared.algorithm.Algorithm.{Algorithm}
use Rattle.bag_text.specs.Lines.{lines_of}
use Rattle.bag_text.specs.Declarations.{IsDeclaration}
use Rattle.bag_text.specs.ListedFile.{ListedFile}
use Rattle.bag_text.specs.Manifests.{IsManifest}
use Rattle.bag_text.specs.Readers.{declaration_of, entries_of}
use Rattle.bag_text.proofs.DeclarationLaws.{declares-read, read-declares}
use Rattle.bag_text.proofs.ManifestLaws.{files_from-listed, listed-files_from}
use Rattle.bag_tree.specs.Facts.{FileFact, TreeFacts}
use Rattle.bag_check.specs.declared.fault.BagFault.{BagFault}
use Rattle.bag_check.specs.declared.fault.BagFault.TheVariants as faults
use Rattle.bag_check.specs.declared.manifests.Kind.{Kind}
use Rattle.bag_check.specs.Manifests.{Manifest, file_at, has_file, text_at, sha512_manifest}
use Rattle.bag_check.specs.Manifests.{manifest_name, is_manifest, is_known_manifest, is_unknown}
use Rattle.bag_check.specs.Manifests.{manifests_of, passes, is_malformed, entries}
use Rattle.bag_check.specs.Check.{is_bad_declaration, declares_other, fails, is_supported_version}
use Rattle.bag_check.specs.Check.{is_supported_encoding, is_astray, repeats, is_unlisted, is_wrong}
use Rattle.bag_check.specs.Check.{if_payload, holds, all_faults, first_fault, answer, identity_of}
use Rattle.bag_check.specs.Check.{check_of, some_manifest, is_missing}
use Rattle.bag_check.specs.Fault.{number_of}
use Rattle.bag_check.specs.Valid.{IsFile, HasText, IsDeclared, IsReadVersion, IsReadEncoding}
use Rattle.bag_check.specs.Valid.{IsManifestName, IsReadManifestName, IsListing, IsValid}
use Rattle.bag_check.proofs.Sets.{all_fail, path_at, none-find, one_fails, is_some-find}
use Rattle.bag_check.proofs.ValidManifests.{each_fails, none_passes, file_decides, IsFaultless}
use Rattle.bag_check.proofs.ValidManifests.{listing, faultless}
use Rattle.bag_check.proofs.ValidNames.{manifest_decides, known_decides}

-- ---- the declaration

version_decides : (version : List ℕ)
    → Decides (is_supported_version version) (IsReadVersion version)
version_decides version =
    Decides-or (bytes_eq version (codes "1.0")) (bytes_eq version (codes "0.97"))
    (bytes_eq-Decides version (codes "1.0")) (bytes_eq-Decides version (codes "0.97"))

encoding_decides : (encoding : List ℕ)
    → Decides (is_supported_encoding encoding) (IsReadEncoding encoding)
encoding_decides encoding = bytes_eq-Decides (str_to_ascii_lowercase encoding) (codes "utf-8")

-- what was found is a declaration that is read
abbrev Declares : Option (List ℕ) → Type 0
Declares found =
    (text : List ℕ) × (version : List ℕ) × (encoding : List ℕ) × (found ≡ Some text)
    × IsDeclaration text version encoding × IsReadVersion version × IsReadEncoding encoding

-- what was read of a declaration with no fault
declared_in : (text : List ℕ) (read : Result (List ℕ × List ℕ) ℕ) → declaration_of text ≡ read
    → is_err read ≡ false
    → fails (λ version encoding. is_supported_version version) read ≡ false
    → fails (λ version encoding. is_supported_encoding encoding) read ≡ false
    → Declares (Some text)
declared_in text (Err line) is whole v e = absurd (true≢false whole)
declared_in text (Ok (version, encoding)) is whole v e = (
  text,
  version,
  encoding,
  refl,
  declares-read (lines_of text) (version, encoding) is,
  (version_decides version).0 (not-false (is_supported_version version) v),
  (encoding_decides encoding).0 (not-false (is_supported_encoding encoding) e),
)

abbrev bytes_of : FileFact → List ℕ
bytes_of file = unwrap_or file.text []

declared_at : (file : Option FileFact) → not (is_some file) ≡ false
    → is_bad_declaration (option_map bytes_of file) ≡ false
    → declares_other (λ version encoding. is_supported_version version) (option_map bytes_of file)
    ≡ false
    → declares_other (λ version encoding. is_supported_encoding encoding) (option_map bytes_of file)
    ≡ false → Declares (option_map bytes_of file)
declared_at None there whole v e = absurd (true≢false there)
declared_at (Some file) there whole v e =
    declared_in (bytes_of file) (declaration_of (bytes_of file)) refl whole v e

some_file : (file : Option FileFact) (text : List ℕ) → option_map bytes_of file ≡ Some text
    → is_some file ≡ true
some_file None text h = absurd (cc h)
some_file (Some file) text h = refl

-- ---- what manifests are there

known : (facts : TreeFacts) → holds faults.UnknownAlgorithm facts ≡ false → (path : List ℕ)
    → IsFile facts path → IsManifestName path → IsReadManifestName path
unfolding holds is_unknown
known facts h path there named =
    let sound : (is_manifest path && not (is_known_manifest path)) ≡ false =
    All-contains (λ q. (is_manifest q && not (is_known_manifest q)) ≡ false)
    (map (λ (file : FileFact). file.path) facts.files) path
    (All-map (λ q. (is_manifest q && not (is_known_manifest q)) ≡ false)
    (λ (file : FileFact). file.path) facts.files (all_fail is_unknown facts.files h)) there in
    (known_decides path).0
    (not-false (is_known_manifest path) (rw ((manifest_decides path).1 named) at sound))

none_unknown : (facts : TreeFacts)
    → ((path : List ℕ) → IsFile facts path → IsManifestName path → IsReadManifestName path)
    → holds faults.UnknownAlgorithm facts ≡ false
unfolding holds is_unknown
none_unknown facts h =
    list_any_none is_unknown facts.files
    (λ k d within.
    let path : List ℕ = (get_or facts.files k d).path in
    false_from_ne_true (is_manifest path && not (is_known_manifest path))
    (λ both.
    let parts = and_parts (is_manifest path) (not (is_known_manifest path)) both in
    let there = path_at (λ (file : FileFact). file.path) facts.files k d within in
    let read : is_known_manifest path ≡ true =
    (known_decides path).1 (h path there ((manifest_decides path).0 parts.0)) in
    cc (rw read at parts.1)))

-- ---- a tree in which no fault holds

module _ (facts : TreeFacts) (none : (fault : BagFault) → holds fault facts ≡ false) where
  is_declared : IsDeclared facts
  unfolding holds
  is_declared =
      declared_at (file_at (codes "bagit.txt") facts.files) (none faults.NoDeclaration)
      (none faults.BadDeclaration) (none faults.UnsupportedVersion)
      (none faults.UnsupportedEncoding)

  is_listed_by : (kind : Kind) (algorithm : Algorithm) (text : List ℕ)
      → HasText facts (manifest_name kind algorithm) text
      → (es : List ListedFile) × IsManifest algorithm text es × IsListing facts kind algorithm es
  unfolding holds
  is_listed_by kind algorithm text there = go (entries_of algorithm text) refl
    where
      -- what the manifest lists fails a test that no manifest passes
      fails_too : (es : List ListedFile) → entries_of algorithm text ≡ Ok es
          → (test : Manifest → List ListedFile → Bool) → some_manifest test facts.files ≡ false
          → test (record { kind = kind; algorithm = algorithm; text = text }) es ≡ false
      fails_too es is test fault =
          rw is at
          (each_fails (λ m. passes (test m) (entries m)) facts fault kind algorithm text there)

      go : (read : Result (List ListedFile) ℕ) → entries_of algorithm text ≡ read
          → (es : List ListedFile)
          × IsManifest algorithm text es × IsListing facts kind algorithm es
      go (Err line) is =
          let sound =
          each_fails (λ m. is_malformed (entries m)) facts (none faults.MalformedLine) kind
          algorithm text there in
          absurd (true≢false (rw is at sound))
      go (Ok es) is =
          let fails = fails_too es is in (
            es,
            listed-files_from algorithm 1 (lines_of text) es is,
            listing facts kind algorithm es
                (record {
                  astray = fails (λ m. list_any (is_astray m.kind)) (none faults.UnsafePath);
                  repeat =
                      fails (λ m es. if_payload m.kind (repeats es)) (none faults.DuplicateEntry);
                  missing =
                      fails (λ m. list_any (is_missing facts.files)) (none faults.MissingFile);
                  unlisted =
                      fails (λ m es. if_payload m.kind (list_any (is_unlisted es) facts.files))
                      (none faults.UnlistedFile);
                  wrong =
                      fails (λ m. list_any (is_wrong m.algorithm facts.files))
                      (none faults.WrongDigest);
                }),
          )

  pub faultless_valid : IsValid facts
  unfolding holds
  faultless_valid = record {
    declared = is_declared;
    no_fetch =
        λ there. true≢false (sym ((file_decides facts (codes "fetch.txt")).1 there)
        ∙ none faults.HasFetch);
    payload = not-false facts.payload (none faults.NoPayloadFolder);
    sha512 =
        (file_decides facts sha512_manifest).0
        (not-false (has_file sha512_manifest facts.files) (none faults.NoSha512Manifest));
    known = known facts (none faults.UnknownAlgorithm);
    listed = is_listed_by;
  }

-- ---- a valid tree

module _ (facts : TreeFacts) (valid : IsValid facts) where
  abbrev text : List ℕ
  text = valid.declared.0

  has_text : text_at (codes "bagit.txt") facts.files ≡ Some text
  has_text = valid.declared.3

  declares : declaration_of text ≡ Ok (valid.declared.1, valid.declared.2)
  declares = read-declares (lines_of text) (valid.declared.1, valid.declared.2) valid.declared.4

  -- no manifest passes a test that what it lists fails
  none_listed : (test : Manifest → List ListedFile → Bool)
      → ((kind : Kind) (algorithm : Algorithm) (bytes : List ℕ) (es : List ListedFile)
      → IsFaultless facts kind algorithm es
      → test (record { kind = kind; algorithm = algorithm; text = bytes }) es ≡ false)
      → list_any (λ m. passes (test m) (entries m)) (manifests_of facts.files) ≡ false
  none_listed test fault =
      none_passes (λ m. passes (test m) (entries m)) facts
      (λ kind algorithm bytes there.
      let found = valid.listed kind algorithm bytes there in
      let read : entries_of algorithm bytes ≡ Ok found.0 =
      files_from-listed algorithm 1 (lines_of bytes) found.0 found.1 in
      rw read (fault kind algorithm bytes found.0 (faultless facts kind algorithm found.0 found.2)))

  pub valid_faultless : (fault : BagFault) → holds fault facts ≡ false
  unfolding holds
  valid_faultless faults.NoDeclaration =
      rw (some_file (file_at (codes "bagit.txt") facts.files) text has_text) refl
  valid_faultless faults.BadDeclaration = rw (has_text, declares) refl
  valid_faultless faults.UnsupportedVersion =
      rw (has_text, declares, (version_decides valid.declared.1).1 valid.declared.5) refl
  valid_faultless faults.UnsupportedEncoding =
      rw (has_text, declares, (encoding_decides valid.declared.2).1 valid.declared.6) refl
  valid_faultless faults.HasFetch =
      false_from_ne_true (has_file (codes "fetch.txt") facts.files)
      (λ there. valid.no_fetch ((file_decides facts (codes "fetch.txt")).0 there))
  valid_faultless faults.NoPayloadFolder = not_from_true facts.payload valid.payload
  valid_faultless faults.NoSha512Manifest =
      rw ((file_decides facts sha512_manifest).1 valid.sha512) refl
  valid_faultless faults.UnknownAlgorithm = none_unknown facts valid.known
  valid_faultless faults.MalformedLine =
      none_passes (λ m. is_malformed (entries m)) facts
      (λ kind algorithm bytes there.
      let found = valid.listed kind algorithm bytes there in
      ap is_malformed (files_from-listed algorithm 1 (lines_of bytes) found.0 found.1))
  valid_faultless faults.UnsafePath =
      none_listed (λ m es. list_any (is_astray m.kind) es) (λ kind algorithm bytes es h. h.astray)
  valid_faultless faults.DuplicateEntry =
      none_listed (λ m es. if_payload m.kind (repeats es)) (λ kind algorithm bytes es h. h.repeat)
  valid_faultless faults.MissingFile =
      none_listed
      (λ m. list_any (is_missing facts.files))
      (λ kind algorithm bytes es h. h.missing)
  valid_faultless faults.UnlistedFile =
      none_listed (λ m es. if_payload m.kind (list_any (is_unlisted es) facts.files))
      (λ kind algorithm bytes es h. h.unlisted)
  valid_faultless faults.WrongDigest =
      none_listed (λ m es. list_any (is_wrong m.algorithm facts.files) es)
      (λ kind algorithm bytes es h. h.wrong)
  valid_faultless faults.Memory = refl

-- ---- what checking answers

-- the faults that a check looks for are all but that memory ran out
in_faults : (fault : BagFault) → (fault ≡ faults.Memory) ⊎ Contains all_faults fault
in_faults faults.Memory = inl refl
in_faults fault = inr (pred (number_of fault), omega arith, refl)

module _ (facts : TreeFacts) where
  -- no fault is found where none holds
  none_found : ((fault : BagFault) → holds fault facts ≡ false) → first_fault facts ≡ None
  none_found none =
      none-find (λ fault. holds fault facts) all_faults
      (recursion_from_All (λ fault. holds fault facts ≡ false) all_faults
      (λ k d within. none (get_or all_faults k d)))

  -- none holds where none is found
  none_holds : first_fault facts ≡ None → (fault : BagFault) → holds fault facts ≡ false
  unfolding holds
  none_holds h fault = elim (in_faults fault) [
    | inl memory ↦ rw memory refl
    | inr listed ↦
        one_fails (λ f. holds f facts) all_faults fault listed
        (sym (is_some-find (λ f. holds f facts) all_faults) ∙ ap is_some h)
  ]

  no_fault : (found : Option BagFault) (bag : BagId) → answer facts found ≡ Ok bag → found ≡ None
  no_fault None bag h = refl
  no_fault (Some fault) bag h = absurd (cc h)

  -- a check of a valid tree answers its identity
  pub valid_checked : IsValid facts → check_of facts ≡ Ok (identity_of facts)
  unfolding check_of
  valid_checked valid = ap (answer facts) (none_found (valid_faultless facts valid))

  -- a tree of which a check answers an identity is valid
  pub checked_valid : (bag : BagId) → check_of facts ≡ Ok bag → IsValid facts
  unfolding check_of
  checked_valid bag h = faultless_valid facts (none_holds (no_fault (first_fault facts) bag h))

  -- what a check answers of a valid tree, and of any other
  pub is_valid : (result : Result BagId BagFault) → IsOrFault faults.Memory result (check_of facts)
      → IfOk result (λ bag. IsValid facts × (bag ≡ identity_of facts))
  is_valid (Err fault) h = tt
  is_valid (Ok bag) (inr h) = absurd (cc h)
  is_valid (Ok bag) (inl h) =
      let valid = checked_valid bag (sym h) in
      (valid, cc (h, valid_checked valid))

  pub is_only : (result : Result BagId BagFault) → IsOrFault faults.Memory result (check_of facts)
      → IsValid facts → MatchResult result (λ bag. bag ≡ identity_of facts)
      (λ fault. fault ≡ faults.Memory)
  is_only (Ok bag) h valid = (is_valid (Ok bag) h).1
  is_only (Err fault) (inr h) valid = cc h
  is_only (Err fault) (inl h) valid = absurd (cc (h ∙ valid_checked valid))
