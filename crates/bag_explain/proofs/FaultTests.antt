-- A fault holds exactly where it has a place.
use Rattle.std.proofs.Common.{◌≡◌, ℕ, Bool, true, false, ◌||◌, List, [], ◌∷◌, ◌++◌}
use Rattle.std.proofs.Common.{Option, Some, None, Result, Ok, Err, refl, sym, ap, ◌∙◌}
use Rattle.std.specs.Prelude.{is_err}
use Rattle.std.specs.List.{list_any, flat_map}
use Rattle.std.proofs.lemmas.List.Folds.{flat_map-map}
use Rattle.bag_text.specs.ListedFile.{ListedFile}
use Rattle.bag_text.specs.Lines.{lines_of}
use Rattle.bag_text.specs.Readers.{declaration_of}
use Rattle.bag_tree.specs.Facts.{FileFact, TreeFacts}
use Rattle.bag_check.specs.declared.fault.BagFault.{BagFault}
use Rattle.bag_check.specs.declared.fault.BagFault.TheVariants as faults
use Rattle.bag_check.specs.declared.manifests.Kind.{Kind}
use Rattle.bag_check.specs.declared.manifests.Kind.TheVariants.{Payload, Tag}
use Rattle.bag_check.specs.Manifests.{Manifest, manifests_of, entries, passes, is_malformed}
use Rattle.bag_check.specs.Manifests.{is_unknown}
use Rattle.bag_check.specs.Check.{holds, is_bad_declaration, is_astray, is_missing, is_wrong}
use Rattle.bag_check.specs.Check.{is_unlisted, repeats, if_payload, declaration_in}
use Rattle.bag_check.proofs.Repeats.{same_any}
use Rattle.bag_explain.specs.Lines.{NumberedFile, malformed_from, numbered_from}
use Rattle.bag_explain.specs.Listings.{NumberedListing, listing_of, listings_of, unless_malformed}
use Rattle.bag_explain.specs.Places.{Place, at_unlisted, name_of, places_of, when, of_payload}
use Rattle.bag_explain.specs.Places.{files_in, faulty_line, faulty_lines, unknown_at}
use Rattle.bag_explain.specs.Places.{repeated_after, astray_at, repeated_at, missing_at, wrong_at}
use Rattle.bag_explain.specs.Places.{malformed_places, astray_places, repeated_places}
use Rattle.bag_explain.specs.Places.{missing_places, unlisted_places, wrong_places}
use Rattle.bag_explain.specs.Findings.{has_some}
use Rattle.bag_explain.proofs.LineLaws.{Agrees, text_agrees}
use Rattle.bag_explain.proofs.Repeated.{repeats_after}

-- ---- lists with an element

some_append : {X : Type 0} (a b : List X) → has_some (a ++ b) ≡ (has_some a || has_some b)
some_append [] b = refl
some_append (x ∷ a) b = refl

some_flat_map : {X Y : Type 0} (f : X → List Y) (xs : List X)
    → has_some (flat_map f xs) ≡ list_any (λ x. has_some (f x)) xs
some_flat_map f [] = refl
some_flat_map f (x ∷ xs) = rw (some_append (f x) (flat_map f xs), some_flat_map f xs)

some_when : {X : Type 0} (test : Bool) (x : X) → has_some (when test (x ∷ [])) ≡ test
some_when true x = refl
some_when false x = refl

some_each : {X Y : Type 0} (f : X → Y) (xs : List X)
    → has_some (flat_map (λ x. f x ∷ []) xs) ≡ has_some xs
some_each f [] = refl
some_each f (x ∷ xs) = refl

-- ---- before any manifest is read

some_declared : (text : Option (List ℕ)) → is_bad_declaration text ≡ has_some (faulty_lines text)
some_declared None = refl
some_declared (Some text) = go (declaration_of text)
  where
    go : (declared : Result (List ℕ × List ℕ) ℕ) → is_err declared ≡ has_some (faulty_line declared)
    go (Ok declared) = refl
    go (Err line) = refl

some_unknown : (files : List FileFact)
    → list_any is_unknown files ≡ has_some (flat_map unknown_at files)
some_unknown files =
    sym (some_flat_map unknown_at files
    ∙ same_any (λ (file : FileFact). has_some (unknown_at file)) is_unknown
    (λ file. some_when (is_unknown file) _) files)

-- ---- one manifest

abbrev numbered_in : Manifest → List NumberedFile
numbered_in manifest = numbered_from manifest.algorithm 1 (lines_of manifest.text)

abbrev malformed_in : Manifest → List ℕ
malformed_in manifest = malformed_from manifest.algorithm 1 (lines_of manifest.text)

-- what passes a test of the entries passes one of the numbered entries
passed : (read : Result (List ListedFile) ℕ) (malformed : List ℕ) (found : List NumberedFile)
    (test : List ListedFile → Bool) (other : List NumberedFile → Bool)
    → ((files : List NumberedFile) → test (files_in files) ≡ other files) → other [] ≡ false
    → Agrees read malformed found → passes test read ≡ other (unless_malformed malformed found)
passed (Ok files) malformed found test other same none (sound, are) =
    rw (sound, ← are) (same found)
passed (Err line) [] found test other same none h = cc
passed (Err line) (first ∷ malformed) found test other same none h = sym none

any_file : (test : ListedFile → Bool) (files : List NumberedFile)
    → list_any test (files_in files) ≡ list_any (λ entry. test entry.file) files
any_file test [] = refl
any_file test (entry ∷ files) = rw (any_file test files)

entries_test : (test : ListedFile → Bool) (at : NumberedFile → List Place)
    → ((entry : NumberedFile) → has_some (at entry) ≡ test entry.file)
    → (files : List NumberedFile)
    → list_any test (files_in files) ≡ has_some (flat_map at files)
entries_test test at same files =
    any_file test files
    ∙ sym (some_flat_map at files
    ∙ same_any (λ (entry : NumberedFile). has_some (at entry))
    (λ (entry : NumberedFile). test entry.file) same files)

repeated_test : (kind : Kind) (listing : NumberedListing) (files : List NumberedFile)
    → if_payload kind (repeats (files_in files))
    ≡ has_some (of_payload kind (flat_map (repeated_at listing) (repeated_after [] files)))
unfolding repeats
repeated_test Payload listing files =
    repeats_after [] files ∙ sym (some_each _ (repeated_after [] files))
repeated_test Tag listing files = refl

unlisted_any : (kind : Kind) (files : List FileFact) (place : FileFact → Place)
    (listed : List ListedFile)
    → if_payload kind (list_any (is_unlisted listed) files)
    ≡ has_some (of_payload kind
    (flat_map (λ file. when (is_unlisted listed file) (place file ∷ [])) files))
unlisted_any Payload files place listed =
    sym (some_flat_map (λ (file : FileFact). when (is_unlisted listed file) (place file ∷ [])) files
    ∙ same_any (λ (file : FileFact). has_some (when (is_unlisted listed file) (place file ∷ [])))
    (is_unlisted listed) (λ file. some_when (is_unlisted listed file) (place file)) files)
unlisted_any Tag files place listed = refl

unlisted_test : (kind : Kind) (files : List FileFact) (place : FileFact → Place)
    (read : Result (List ListedFile) ℕ) (malformed : List ℕ) (found : List NumberedFile)
    → Agrees read malformed found
    → passes (λ listed. if_payload kind (list_any (is_unlisted listed) files)) read
    ≡ has_some (unless_malformed malformed (of_payload kind (flat_map (λ file.
    when (is_unlisted (files_in (unless_malformed malformed found)) file) (place file ∷ []))
    files)))
unlisted_test kind files place (Ok listed) [] found (sound, are) =
    ap (λ ls. if_payload kind (list_any (is_unlisted ls) files)) (sym are)
    ∙ unlisted_any kind files place (files_in found)
unlisted_test kind files place (Ok listed) (line ∷ malformed) found (sound, are) = absurd (cc sound)
unlisted_test kind files place (Err line) [] found h = cc
unlisted_test kind files place (Err line) (first ∷ malformed) found h = refl

module _ (manifest : Manifest) where
  -- the same of a test, as it is asked of the manifest's listing
  of_listing : (test : List ListedFile → Bool)
      (places : NumberedListing → List NumberedFile → List Place)
      → ((files : List NumberedFile) → test (files_in files)
      ≡ has_some (places (listing_of manifest) files))
      → has_some (places (listing_of manifest) []) ≡ false
      → passes test (entries manifest)
      ≡ has_some (places (listing_of manifest) (listing_of manifest).files)
  unfolding listing_of
  of_listing test places same none =
      passed (entries manifest) (malformed_in manifest) (numbered_in manifest) test
      (λ files. has_some (places (listing_of manifest) files)) same none
      (text_agrees manifest.algorithm manifest.text)

  malformed_here : is_malformed (entries manifest)
      ≡ has_some (malformed_places (listing_of manifest))
  unfolding listing_of
  malformed_here =
      go (entries manifest) (malformed_in manifest) (numbered_in manifest)
      (text_agrees manifest.algorithm manifest.text)
      ∙ sym (some_each _ (malformed_in manifest))
    where
      go : (read : Result (List ListedFile) ℕ) (malformed : List ℕ) (found : List NumberedFile)
          → Agrees read malformed found → is_malformed read ≡ has_some malformed
      go (Ok files) malformed found (sound, are) = ap has_some (sym sound)
      go (Err line) malformed found h = sym h

  astray_here : passes (list_any (is_astray manifest.kind)) (entries manifest)
      ≡ has_some (astray_places (listing_of manifest))
  unfolding listing_of
  astray_here =
      of_listing (list_any (is_astray manifest.kind)) (λ l files. flat_map (astray_at l) files)
      (entries_test (is_astray manifest.kind) (astray_at (listing_of manifest))
      (λ entry. some_when (is_astray manifest.kind entry.file) _)) refl

  missing_here : (files : List FileFact) → passes (list_any (is_missing files)) (entries manifest)
      ≡ has_some (missing_places files (listing_of manifest))
  missing_here files =
      of_listing (list_any (is_missing files)) (λ l entries. flat_map (missing_at files l) entries)
      (entries_test (is_missing files) (missing_at files (listing_of manifest))
      (λ entry. some_when (is_missing files entry.file) _)) refl

  wrong_here : (files : List FileFact)
      → passes (list_any (is_wrong manifest.algorithm files)) (entries manifest)
      ≡ has_some (wrong_places files (listing_of manifest))
  unfolding listing_of
  wrong_here files =
      of_listing (list_any (is_wrong manifest.algorithm files))
      (λ l entries. flat_map (wrong_at files l) entries)
      (entries_test (is_wrong manifest.algorithm files) (wrong_at files (listing_of manifest))
      (λ entry. some_when (is_wrong manifest.algorithm files entry.file) _)) refl

  repeated_here : passes (λ files. if_payload manifest.kind (repeats files)) (entries manifest)
      ≡ has_some (repeated_places (listing_of manifest))
  unfolding listing_of repeated_after
  repeated_here =
      of_listing (λ files. if_payload manifest.kind (repeats files))
      (λ l entries. of_payload l.kind (flat_map (repeated_at l) (repeated_after [] entries)))
      (repeated_test manifest.kind (listing_of manifest)) (none manifest.kind)
    where
      none : (kind : Kind) → has_some (of_payload kind (flat_map (repeated_at (listing_of manifest))
          (repeated_after [] []))) ≡ false
      none Payload = refl
      none Tag = refl

  unlisted_here : (files : List FileFact)
      → passes (λ listed. if_payload manifest.kind (list_any (is_unlisted listed) files))
      (entries manifest) ≡ has_some (unlisted_places files (listing_of manifest))
  unfolding listing_of
  unlisted_here files =
      unlisted_test manifest.kind files
      (λ file. at_unlisted file.path (name_of (listing_of manifest)))
      (entries manifest) (malformed_in manifest) (numbered_in manifest)
      (text_agrees manifest.algorithm manifest.text)

-- ---- all manifests

of_manifests : (test : Manifest → Bool) (places : NumberedListing → List Place)
    → ((manifest : Manifest) → test manifest ≡ has_some (places (listing_of manifest)))
    → (files : List FileFact) → list_any test (manifests_of files)
    ≡ has_some (flat_map places (listings_of files))
unfolding listings_of
of_manifests test places same files =
    let all = manifests_of files in
    rw (
      flat_map-map places listing_of all,
      some_flat_map (λ manifest. places (listing_of manifest)) all,
    ) (same_any test (λ manifest. has_some (places (listing_of manifest))) same all)

-- a fault holds exactly where it has a place
pub placed : (facts : TreeFacts) (fault : BagFault)
    → holds fault facts ≡ has_some (places_of fault facts)
unfolding places_of holds
placed facts faults.BadDeclaration = some_declared (declaration_in facts)
placed facts faults.UnknownAlgorithm = some_unknown facts.files
placed facts faults.MalformedLine = of_manifests _ _ malformed_here facts.files
placed facts faults.UnsafePath = of_manifests _ _ astray_here facts.files
placed facts faults.DuplicateEntry = of_manifests _ _ repeated_here facts.files
placed facts faults.MissingFile =
    of_manifests _ _ (λ manifest. missing_here manifest facts.files) facts.files
placed facts faults.UnlistedFile =
    of_manifests _ _ (λ manifest. unlisted_here manifest facts.files) facts.files
placed facts faults.WrongDigest =
    of_manifests _ _ (λ manifest. wrong_here manifest facts.files) facts.files
placed facts faults.Memory = refl
placed facts fault = sym (some_when _ _)
