-- The files that are found to be unlisted are those that a payload manifest leaves out.
use Rattle.std.proofs.Common.{◌≡◌, true, refl, subst}
use Rattle.std.specs.List.{flat_map}
use Rattle.bag_tree.specs.Facts.{TreeFacts}
use Rattle.bag_check.specs.declared.fault.BagFault.TheVariants.{UnlistedFile}
use Rattle.bag_check.specs.Manifests.{manifest_name}
use Rattle.bag_check.specs.Check.{is_unlisted}
use Rattle.bag_explain.specs.Listings.{listing_of, listings_of}
use Rattle.bag_explain.specs.Places.{Place, at_unlisted, files_in, name_of, of_payload}
use Rattle.bag_explain.specs.Places.{unlisted_at, unlisted_places}
use Rattle.bag_explain.specs.Wrong.{IsWrongAt}
use Rattle.bag_explain.proofs.Members.{In, contained_in, in_contained, in_some, some_in, in_when}
use Rattle.bag_explain.proofs.Members.{when_in, in_unless, unless_in, in_payload, payload_in}
use Rattle.bag_explain.proofs.ListedEntries.{of_manifest, manifest_of, all_listed, listed_all}

module _ (facts : TreeFacts) where
  -- a place that is found is that of a file left out
  pub unlisted_is : (place : Place)
      → In place (flat_map (unlisted_places facts.files) (listings_of facts.files))
      → IsWrongAt UnlistedFile facts place
  unfolding IsWrongAt listing_of
  unlisted_is place h =
      let (manifest, m, here) = of_manifest (unlisted_places facts.files) facts.files place h in
      let listing = listing_of manifest in
      let places = flat_map (unlisted_at listing) facts.files in
      let (sound, asked) =
      in_unless listing.malformed (of_payload listing.kind places) place here in
      let (payload, among) = in_payload listing.kind places place asked in
      let (file, there, is) = in_some (unlisted_at listing) facts.files place among in
      let (files, read, same) = all_listed manifest sound in
      let (unlisted, e) =
      in_when (is_unlisted (files_in listing.files) file) (at_unlisted file.path (name_of listing))
      place is in
      subst (IsWrongAt UnlistedFile facts) e (
        manifest,
        files,
        file,
        (m, refl),
        payload,
        read,
        in_contained facts.files file there,
        refl,
        rw same at unlisted,
      )

  -- and the place of a file left out is found
  pub is_unlisted_there : (place : Place) → IsWrongAt UnlistedFile facts place
      → In place (flat_map (unlisted_places facts.files) (listings_of facts.files))
  unfolding IsWrongAt listing_of
  is_unlisted_there (at_unlisted path name)
      (manifest, files, file, (c, named), payload, read, there, same, unlisted) =
      let listing = listing_of manifest in
      let places = flat_map (unlisted_at listing) facts.files in
      let (sound, are) = listed_all manifest files read in
      let e : at_unlisted file.path (manifest_name manifest.kind manifest.algorithm)
      ≡ at_unlisted path name = cc in
      let test : is_unlisted (files_in listing.files) file ≡ true =
      rw are unlisted in
      manifest_of (unlisted_places facts.files) facts.files (at_unlisted path name) manifest c
      (unless_in listing.malformed (of_payload listing.kind places) (at_unlisted path name) sound
      (payload_in listing.kind places (at_unlisted path name) payload
      (some_in (unlisted_at listing) facts.files file (at_unlisted path name)
      (contained_in facts.files file there)
      (rw (← e)
      (when_in (is_unlisted (files_in listing.files) file)
      (at_unlisted file.path (name_of listing)) test)))))
  is_unlisted_there place h = absurd h
