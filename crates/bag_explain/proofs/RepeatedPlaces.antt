-- The entries that are found to be repeated are those whose path an earlier line lists.
use Rattle.std.proofs.Common.{◌≡◌, ◌<◌, [], refl, sym, ◌∙◌, subst, inl, inr}
use Rattle.std.specs.List.{flat_map}
use Rattle.bag_tree.specs.Facts.{TreeFacts}
use Rattle.bag_check.specs.declared.fault.BagFault.TheVariants.{DuplicateEntry}
use Rattle.bag_explain.specs.Lines.{NumberedFile}
use Rattle.bag_explain.specs.Listings.{listing_of, listings_of}
use Rattle.bag_explain.specs.Places.{Place, at_entry, entry_place, repeated_after, repeated_at}
use Rattle.bag_explain.specs.Places.{repeated_places}
use Rattle.bag_explain.specs.Wrong.{IsWrongAt}
use Rattle.bag_explain.proofs.Members.{In, in_one, in_some, some_in, in_payload, payload_in}
use Rattle.bag_explain.proofs.EarlierEntries.{IsBefore, repeated_before, before_repeated}
use Rattle.bag_explain.proofs.ListedEntries.{entry_listed, listed_entry, of_manifest, manifest_of}
use Rattle.bag_explain.proofs.ListedEntries.{entries_rise}

module _ (facts : TreeFacts) where
  -- a place that is found is that of a repeated entry
  pub repeated_is : (place : Place)
      → In place (flat_map repeated_places (listings_of facts.files))
      → IsWrongAt DuplicateEntry facts place
  unfolding IsWrongAt listing_of
  repeated_is place h =
      let (manifest, m, here) = of_manifest repeated_places facts.files place h in
      let listing = listing_of manifest in
      let again = repeated_after [] listing.files in
      let (payload, among) =
      in_payload listing.kind (flat_map (repeated_at listing) again) place here in
      let (entry, repeated, is) = in_some (repeated_at listing) again place among in
      let (listed, before) =
      repeated_before [] listing.files 1 entry (entries_rise manifest) repeated in
      let there : (first : NumberedFile) × In first listing.files
      × (first.file.path ≡ entry.file.path) × (first.line < entry.line) =
      elim before [ inl none ↦ absurd cc | inr first ↦ first ] in
      let (first, k, path, below) = there in
      subst (IsWrongAt DuplicateEntry facts) (in_one (entry_place listing entry) place is) (
        manifest,
        entry.file,
        (m, refl),
        entry_listed manifest entry listed,
        refl,
        (payload, (first, entry_listed manifest first k, path, below)),
      )

  -- and a repeated entry's place is found
  pub is_repeated_there : (place : Place) → IsWrongAt DuplicateEntry facts place
      → In place (flat_map repeated_places (listings_of facts.files))
  unfolding IsWrongAt listing_of
  is_repeated_there (at_entry path name line)
      (manifest, file, (c, named), lists, same, (payload, (first, earlier, path_of_it, below))) =
      let listing = listing_of manifest in
      let again = repeated_after [] listing.files in
      let entry : NumberedFile = record { line = line; file = file } in
      let before : IsBefore [] listing.files entry =
      inr (first, listed_entry manifest first earlier, path_of_it ∙ sym same, below) in
      manifest_of repeated_places facts.files (at_entry path name line) manifest c
      (payload_in listing.kind (flat_map (repeated_at listing) again) (at_entry path name line)
      payload
      (some_in (repeated_at listing) again entry (at_entry path name line)
      (before_repeated [] listing.files 1 entry (entries_rise manifest)
      (listed_entry manifest entry lists) before) (inl cc)))
  is_repeated_there place h = absurd h
