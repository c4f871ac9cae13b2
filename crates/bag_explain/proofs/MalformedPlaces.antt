-- The malformed lines that are found are all that are.
use Rattle.std.proofs.Common.{refl, subst, inl}
use Rattle.std.specs.List.{flat_map}
use Rattle.bag_tree.specs.Facts.{TreeFacts}
use Rattle.bag_check.specs.declared.fault.BagFault.TheVariants.{MalformedLine}
use Rattle.bag_explain.specs.Listings.{listing_of, listings_of}
use Rattle.bag_explain.specs.Places.{Place, at_line, name_of, malformed_at, malformed_places}
use Rattle.bag_explain.specs.Wrong.{IsWrongAt}
use Rattle.bag_explain.proofs.Members.{In, in_one, in_some, some_in}
use Rattle.bag_explain.proofs.ListedEntries.{of_manifest, manifest_of}
use Rattle.bag_explain.proofs.ListedEntries.{malformed_here, here_malformed}

module _ (facts : TreeFacts) where
  -- a place that is found is that of a malformed line
  pub malformed_is : (place : Place)
      → In place (flat_map malformed_places (listings_of facts.files))
      → IsWrongAt MalformedLine facts place
  unfolding IsWrongAt listing_of
  malformed_is place h =
      let (manifest, m, here) = of_manifest malformed_places facts.files place h in
      let listing = listing_of manifest in
      let (line, malformed, is) = in_some (malformed_at listing) listing.malformed place here in
      subst (IsWrongAt MalformedLine facts) (in_one (at_line (name_of listing) line) place is)
      (manifest, (m, refl), malformed_here manifest line malformed)

  -- and a malformed line's place is found
  pub is_malformed_there : (place : Place) → IsWrongAt MalformedLine facts place
      → In place (flat_map malformed_places (listings_of facts.files))
  unfolding IsWrongAt listing_of
  is_malformed_there (at_line name line) (manifest, (c, named), malformed) =
      let listing = listing_of manifest in
      manifest_of malformed_places facts.files (at_line name line) manifest c
      (some_in (malformed_at listing) listing.malformed line (at_line name line)
      (here_malformed manifest line malformed) (inl cc))
  is_malformed_there place h = absurd h
