-- The entries that are found to be astray, missing or of another digest are all that are.
use Rattle.std.proofs.Common.{◌≡◌, Bool, true, List, [], ◌∷◌, refl, subst}
use Rattle.std.specs.Prelude.{Contains}
use Rattle.std.specs.List.{flat_map}
use Rattle.bag_tree.specs.Facts.{TreeFacts}
use Rattle.bag_check.specs.declared.fault.BagFault.TheVariants.{UnsafePath, MissingFile}
use Rattle.bag_check.specs.declared.fault.BagFault.TheVariants.{WrongDigest}
use Rattle.bag_check.specs.Manifests.{Manifest, manifests_of, manifest_name}
use Rattle.bag_check.specs.Check.{is_astray, is_missing, is_wrong}
use Rattle.bag_explain.specs.Lines.{NumberedFile}
use Rattle.bag_explain.specs.Listings.{NumberedListing, listing_of, listings_of}
use Rattle.bag_explain.specs.Places.{Place, at_entry, at_digest, when, entry_place, digest_place}
use Rattle.bag_explain.specs.Places.{astray_places, missing_places, wrong_places}
use Rattle.bag_explain.specs.Wrong.{IsNamed, ListsNumbered, IsWrongAt}
use Rattle.bag_explain.proofs.Members.{In, in_some, some_in, in_when, when_in}
use Rattle.bag_explain.proofs.ListedEntries.{entry_listed, listed_entry, of_manifest, manifest_of}

-- ---- the entries that pass a test

module _ (facts : TreeFacts) (test : NumberedListing → NumberedFile → Bool)
    (at : NumberedListing → NumberedFile → Place) where
  abbrev each : NumberedListing → NumberedFile → List Place
  each listing entry = when (test listing entry) (at listing entry ∷ [])

  abbrev places : NumberedListing → List Place
  places listing = flat_map (each listing) listing.files

  -- what holds at each entry that passes holds at each place
  passes_at : (Is : Place → Type 0)
      → ((manifest : Manifest) (entry : NumberedFile)
      → IsNamed facts (manifest_name manifest.kind manifest.algorithm) manifest
      → ListsNumbered manifest entry → test (listing_of manifest) entry ≡ true
      → Is (at (listing_of manifest) entry))
      → (place : Place) → In place (flat_map places (listings_of facts.files)) → Is place
  passes_at Is holds place h =
      let (manifest, m, here) = of_manifest places facts.files place h in
      let listing = listing_of manifest in
      let (entry, listed, found) = in_some (each listing) listing.files place here in
      let (passed, is) = in_when (test listing entry) (at listing entry) place found in
      subst Is is
      (holds manifest entry (m, refl)
      (entry_listed manifest entry listed) passed)

  -- an entry that passes has a place
  at_passes : (manifest : Manifest) (entry : NumberedFile) (place : Place)
      → Contains (manifests_of facts.files) manifest → ListsNumbered manifest entry
      → test (listing_of manifest) entry ≡ true → at (listing_of manifest) entry ≡ place
      → In place (flat_map places (listings_of facts.files))
  at_passes manifest entry place c lists passed is =
      let listing = listing_of manifest in
      subst (λ p. In p (flat_map places (listings_of facts.files))) is
      (manifest_of places facts.files (at listing entry) manifest c
      (some_in (each listing) listing.files entry (at listing entry)
      (listed_entry manifest entry lists) (when_in (test listing entry) (at listing entry) passed)))

module _ (facts : TreeFacts) where
  -- ---- an entry whose path is astray

  abbrev astray : NumberedListing → NumberedFile → Bool
  astray listing entry = is_astray listing.kind entry.file

  pub astray_is : (place : Place)
      → In place (flat_map astray_places (listings_of facts.files))
      → IsWrongAt UnsafePath facts place
  unfolding IsWrongAt listing_of
  astray_is =
      passes_at facts astray entry_place (IsWrongAt UnsafePath facts)
      (λ manifest entry m lists passed. (manifest, entry.file, m, lists, refl, passed))

  pub is_astray_there : (place : Place) → IsWrongAt UnsafePath facts place
      → In place (flat_map astray_places (listings_of facts.files))
  unfolding IsWrongAt listing_of
  is_astray_there (at_entry path name line) (manifest, file, (c, named), lists, same, passed) =
      at_passes facts astray entry_place manifest (record { line = line; file = file })
      (at_entry path name line) c lists passed cc
  is_astray_there place h = absurd h

  -- ---- an entry whose file is missing

  abbrev missing : NumberedListing → NumberedFile → Bool
  missing listing entry = is_missing facts.files entry.file

  pub missing_is : (place : Place)
      → In place (flat_map (missing_places facts.files) (listings_of facts.files))
      → IsWrongAt MissingFile facts place
  unfolding IsWrongAt listing_of
  missing_is =
      passes_at facts missing entry_place (IsWrongAt MissingFile facts)
      (λ manifest entry m lists passed. (manifest, entry.file, m, lists, refl, passed))

  pub is_missing_there : (place : Place) → IsWrongAt MissingFile facts place
      → In place (flat_map (missing_places facts.files) (listings_of facts.files))
  unfolding IsWrongAt listing_of
  is_missing_there (at_entry path name line) (manifest, file, (c, named), lists, same, passed) =
      at_passes facts missing entry_place manifest (record { line = line; file = file })
      (at_entry path name line) c lists passed cc
  is_missing_there place h = absurd h

  -- ---- an entry whose file has another digest

  abbrev wrong : NumberedListing → NumberedFile → Bool
  wrong listing entry = is_wrong listing.algorithm facts.files entry.file

  pub wrong_is : (place : Place)
      → In place (flat_map (wrong_places facts.files) (listings_of facts.files))
      → IsWrongAt WrongDigest facts place
  unfolding IsWrongAt listing_of
  wrong_is =
      passes_at facts wrong digest_place (IsWrongAt WrongDigest facts)
      (λ manifest entry m lists passed. (manifest, entry.file, m, lists, refl, (refl, passed)))

  pub is_wrong_there : (place : Place) → IsWrongAt WrongDigest facts place
      → In place (flat_map (wrong_places facts.files) (listings_of facts.files))
  unfolding IsWrongAt listing_of
  is_wrong_there (at_digest path algorithm name line)
      (manifest, file, (c, named), lists, same, (by, passed)) =
      at_passes facts wrong digest_place manifest (record { line = line; file = file })
      (at_digest path algorithm name line) c lists
      (rw by passed) cc
  is_wrong_there place h = absurd h
