-- A fault has no place twice.
use Rattle.std.proofs.Common.{◌≡◌, ◌≢◌, ℕ, ◌<◌, Bool, true, List, [], ◌∷◌, Option, Some, None}
use Rattle.std.proofs.Common.{Result, Ok, Err, refl, arith}
use Rattle.std.specs.Prelude.{AllPairs}
use Rattle.std.specs.List.{flat_map}
use Rattle.bag_text.specs.Lines.{lines_of}
use Rattle.bag_text.specs.Readers.{declaration_of}
use Rattle.bag_tree.specs.Facts.{FileFact, TreeFacts}
use Rattle.bag_check.specs.declared.fault.BagFault.{BagFault}
use Rattle.bag_check.specs.declared.fault.BagFault.TheVariants as faults
use Rattle.bag_check.specs.Manifests.{Manifest, is_unknown}
use Rattle.bag_check.specs.Check.{holds, declaration_in, is_astray, is_missing, is_wrong}
use Rattle.bag_check.specs.Check.{is_unlisted}
use Rattle.bag_explain.specs.Lines.{NumberedFile}
use Rattle.bag_explain.specs.Listings.{NumberedListing, listing_of, listings_of}
use Rattle.bag_explain.specs.Places.{Place, at_file, at_line, at_unlisted}
use Rattle.bag_explain.specs.Places.{places_of, when, of_payload, files_in, name_of}
use Rattle.bag_explain.specs.Places.{faulty_line, faulty_lines, unknown_at, repeated_after}
use Rattle.bag_explain.specs.Places.{entry_place, digest_place, repeated_at, unlisted_at}
use Rattle.bag_explain.specs.Places.{malformed_places, repeated_places, unlisted_places}
use Rattle.bag_explain.proofs.Members.{In, in_unless, in_payload}
use Rattle.bag_explain.proofs.Pairs.{Pairs, all_pairs, pairs_all, pairs_when, pairs_unless}
use Rattle.bag_explain.proofs.RisingPairs.{repeated_rise, malformed_pairs}
use Rattle.bag_explain.proofs.ListedEntries.{entries_rise}
use Rattle.bag_explain.proofs.ManifestNames.{name_in}
use Rattle.bag_explain.proofs.KeyedPlaces.{name_at, line_at, path_at, Once, of_manifests}
use Rattle.bag_explain.proofs.KeyedPlaces.{each, tested, all_named, of_entries, once_payload}

abbrev always : {X : Type 0} → X → Bool
always x = true

abbrev HaveOtherPaths : FileFact → FileFact → Type 0
HaveOtherPaths a b = a.path ≢ b.path

-- ---- in one manifest

module _ (manifest : Manifest) where
  malformed_once : Once (malformed_places (listing_of manifest))
  unfolding listing_of
  malformed_once =
      tested always (λ line. at_line (name_in manifest) line) line_at (λ line. line)
      (λ (a b : ℕ). a < b) (λ line. refl) (λ a b below same. absurd (omega (arith, below, same)))
      (listing_of manifest).malformed
      (malformed_pairs manifest.algorithm 1 (lines_of manifest.text))

  repeated_once : Once (repeated_places (listing_of manifest))
  unfolding listing_of
  repeated_once =
      let listing = listing_of manifest in
      let again = repeated_after [] listing.files in
      once_payload listing.kind (flat_map (repeated_at listing) again)
      (of_entries always (entry_place listing) (λ entry. refl) again
      (repeated_rise [] 1 listing.files (entries_rise manifest)))

  repeated_named : (place : Place) → In place (repeated_places (listing_of manifest))
      → name_at place ≡ name_in manifest
  unfolding listing_of
  repeated_named place h =
      let listing = listing_of manifest in
      let again = repeated_after [] listing.files in
      all_named always (entry_place listing) (name_in manifest) (λ entry. refl) again place
      (in_payload listing.kind (flat_map (repeated_at listing) again) place h).1

module _ (facts : TreeFacts) (apart : Pairs HaveOtherPaths facts.files) where
  unlisted_once : (manifest : Manifest)
      → Once (unlisted_places facts.files (listing_of manifest))
  unfolding listing_of
  unlisted_once manifest =
      let listing = listing_of manifest in
      let places = flat_map (unlisted_at listing) facts.files in
      pairs_unless (λ (a b : Place). a ≢ b) listing.malformed (of_payload listing.kind places)
      (once_payload listing.kind places
      (tested (is_unlisted (files_in listing.files))
      (λ (file : FileFact). at_unlisted file.path (name_of listing)) path_at
      (λ (file : FileFact). file.path) HaveOtherPaths (λ file. refl)
      (λ a b ne. ne) facts.files apart))

  unlisted_named : (manifest : Manifest) (place : Place)
      → In place (unlisted_places facts.files (listing_of manifest))
      → name_at place ≡ name_in manifest
  unfolding listing_of
  unlisted_named manifest place h =
      let listing = listing_of manifest in
      let places = flat_map (unlisted_at listing) facts.files in
      let asked = in_unless listing.malformed (of_payload listing.kind places) place h in
      all_named (is_unlisted (files_in listing.files))
      (λ (file : FileFact). at_unlisted file.path (name_of listing)) (name_in manifest)
      (λ file. refl) facts.files place (in_payload listing.kind places place asked.1).1

-- ---- before any manifest is read

one_place : (test : Bool) (place : Place) → Once (when test (place ∷ []))
one_place test place = pairs_when (λ (a b : Place). a ≢ b) test place

declared_once : (declaration : Option (List ℕ)) → Once (faulty_lines declaration)
declared_once None = tt
declared_once (Some text) = go (declaration_of text)
  where
    go : (read : Result (List ℕ × List ℕ) ℕ) → Once (faulty_line read)
    go (Ok declared) = tt
    go (Err line) = ((λ y h. absurd h), tt)

module _ (facts : TreeFacts) (apart : Pairs HaveOtherPaths facts.files) where
  unknown_once : Once (flat_map unknown_at facts.files)
  unknown_once =
      tested is_unknown (λ (file : FileFact). at_file file.path) path_at
      (λ (file : FileFact). file.path) HaveOtherPaths (λ file. refl)
      (λ a b ne. ne) facts.files apart

  -- ---- in all manifests

  -- the entries that pass a test
  entries_once : (test : NumberedListing → NumberedFile → Bool)
      (at : NumberedListing → NumberedFile → Place)
      → ((listing : NumberedListing) (entry : NumberedFile)
      → line_at (at listing entry) ≡ entry.line)
      → ((listing : NumberedListing) (entry : NumberedFile)
      → name_at (at listing entry) ≡ name_of listing)
      → Once (flat_map (λ listing. flat_map (each (test listing) (at listing)) listing.files)
      (listings_of facts.files))
  unfolding listing_of
  entries_once test at lines names =
      of_manifests (λ listing. flat_map (each (test listing) (at listing)) listing.files)
      facts.files
      (λ manifest. let listing = listing_of manifest in
      of_entries (test listing) (at listing) (lines listing) listing.files (entries_rise manifest))
      (λ manifest. let listing = listing_of manifest in
      all_named (test listing) (at listing) (name_in manifest) (names listing) listing.files)

  -- each fault has no place twice
  once_in : (fault : BagFault) → Once (places_of fault facts)
  unfolding places_of listing_of
  once_in faults.BadDeclaration = declared_once (declaration_in facts)
  once_in faults.UnknownAlgorithm = unknown_once
  once_in faults.MalformedLine =
      of_manifests malformed_places facts.files malformed_once
      (λ manifest. all_named always (λ line. at_line (name_in manifest) line) (name_in manifest)
      (λ line. refl) (listing_of manifest).malformed)
  once_in faults.UnsafePath =
      entries_once (λ listing entry. is_astray listing.kind entry.file) entry_place
      (λ listing entry. refl) (λ listing entry. refl)
  once_in faults.DuplicateEntry =
      of_manifests repeated_places facts.files repeated_once repeated_named
  once_in faults.MissingFile =
      entries_once (λ listing entry. is_missing facts.files entry.file) entry_place
      (λ listing entry. refl) (λ listing entry. refl)
  once_in faults.UnlistedFile =
      of_manifests (unlisted_places facts.files) facts.files (unlisted_once facts apart)
      (unlisted_named facts apart)
  once_in faults.WrongDigest =
      entries_once (λ listing entry. is_wrong listing.algorithm facts.files entry.file) digest_place
      (λ listing entry. refl) (λ listing entry. refl)
  once_in faults.Memory = tt
  once_in fault = one_place (holds fault facts) _

-- where each file of the tree has a path of its own, no place of a fault comes twice
pub places_once : (fault : BagFault) (facts : TreeFacts)
    → AllPairs (λ (a b : FileFact). a.path ≢ b.path) facts.files
    → AllPairs (λ (a b : Place). a ≢ b) (places_of fault facts)
places_once fault facts apart =
    all_pairs (λ (a b : Place). a ≢ b) (places_of fault facts)
    (once_in facts (pairs_all HaveOtherPaths facts.files apart) fault)
