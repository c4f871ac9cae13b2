-- Facts without the digests that no manifest asks for: what is wrong is the same.
use Rattle.std.proofs.Common.{◌≡◌, Bool, not, List, [], ◌∷◌, map, refl, ap, ◌∙◌}
use Rattle.std.specs.List.{flat_map, AllByRecursion}
use Rattle.bag_tree.specs.declared.algorithms.Algorithms.{Algorithms}
use Rattle.bag_tree.specs.Tree.{Files}
use Rattle.bag_tree.specs.Facts.{FileFact, TreeFacts, facts_of_tree}
use Rattle.bag_check.specs.declared.fault.BagFault.{BagFault}
use Rattle.bag_check.specs.declared.fault.BagFault.TheVariants as faults
use Rattle.bag_check.specs.Manifests.{Manifest, manifests_of, is_unknown}
use Rattle.bag_check.specs.Check.{holds, all_faults}
use Rattle.bag_check.specs.Named.{with_only, only_named, named_facts_of}
use Rattle.bag_check.proofs.NamedManifests.{IsNamed, all_named}
use Rattle.bag_check.proofs.NamedLaws.{flat_same, fewer, same_file, same_manifests, same_wrong}
use Rattle.bag_check.proofs.NamedLaws.{named, declared_kept, holds_kept, named_facts}
use Rattle.bag_explain.specs.Listings.{NumberedListing, listing_of, listings_of, unless_malformed}
use Rattle.bag_explain.specs.Places.{Place, when, of_payload, entry_place}
use Rattle.bag_explain.specs.Places.{digest_place, malformed_places, astray_places, repeated_places}
use Rattle.bag_explain.specs.Places.{missing_at, missing_places, unlisted_at, unlisted_places}
use Rattle.bag_explain.specs.Places.{wrong_at, wrong_places, unknown_at, faulty_lines, places_of}
use Rattle.bag_explain.specs.Findings.{findings_by, findings_of, printed_fault, explanation_of}

-- places in files, of which no digest is asked
flat_kept : (wanted : Algorithms) (f : FileFact → List Place)
    → ((file : FileFact) → f (with_only wanted file) ≡ f file) → (files : List FileFact)
    → flat_map f (fewer wanted files) ≡ flat_map f files
flat_kept wanted f same [] = refl
flat_kept wanted f same (file ∷ files) = rw (same file, flat_kept wanted f same files) refl

module _ (facts : TreeFacts) where
  abbrev files : List FileFact
  files = fewer (named facts) facts.files

  listings_kept : listings_of files ≡ listings_of facts.files
  unfolding listings_of
  listings_kept = ap (map listing_of) (same_manifests (named facts) facts.files)

  missing_kept : (listing : NumberedListing)
      → missing_places files listing ≡ missing_places facts.files listing
  missing_kept listing =
      flat_same (missing_at files listing) (missing_at facts.files listing)
      (λ entry. ap (λ (b : Bool). when (not b) (entry_place listing entry ∷ []))
      (same_file (named facts) entry.file.path facts.files)) listing.files

  unlisted_kept : (listing : NumberedListing)
      → unlisted_places files listing ≡ unlisted_places facts.files listing
  unlisted_kept listing =
      ap (λ (places : List Place). unless_malformed listing.malformed
      (of_payload listing.kind places))
      (flat_kept (named facts) (unlisted_at listing) (λ file. refl) facts.files)

  wrong_of : (manifest : Manifest) → IsNamed facts.files manifest
      → wrong_places files (listing_of manifest) ≡ wrong_places facts.files (listing_of manifest)
  unfolding listing_of
  wrong_of manifest is =
      let listing : NumberedListing = listing_of manifest in
      flat_same (wrong_at files listing) (wrong_at facts.files listing)
      (λ entry. ap (λ (b : Bool). when b (digest_place listing entry ∷ []))
      (same_wrong (named facts) manifest.algorithm facts.files is entry.file)) listing.files

  wrong_among : (manifests : List Manifest) → AllByRecursion (IsNamed facts.files) manifests
      → flat_map (wrong_places files) (map listing_of manifests)
      ≡ flat_map (wrong_places facts.files) (map listing_of manifests)
  wrong_among [] all = refl
  wrong_among (manifest ∷ manifests) (first, others) =
      rw (wrong_of manifest first, wrong_among manifests others) refl

  wrong_kept : flat_map (wrong_places files) (listings_of facts.files)
      ≡ flat_map (wrong_places facts.files) (listings_of facts.files)
  unfolding listings_of
  wrong_kept = wrong_among (manifests_of facts.files) (all_named facts.files)

  unknown_kept : flat_map unknown_at files ≡ flat_map unknown_at facts.files
  unfolding is_unknown
  unknown_kept = flat_kept (named facts) unknown_at (λ file. refl) facts.files

  -- where a fault holds
  held : (fault : BagFault) (places : List Place)
      → when (holds fault (only_named facts)) places ≡ when (holds fault facts) places
  held fault places = ap (λ (b : Bool). when b places) (holds_kept facts fault)

  places_kept : (fault : BagFault) → places_of fault (only_named facts) ≡ places_of fault facts
  unfolding places_of
  places_kept faults.BadDeclaration = ap faulty_lines (declared_kept facts)
  places_kept faults.UnknownAlgorithm = unknown_kept
  places_kept faults.MalformedLine = ap (flat_map malformed_places) listings_kept
  places_kept faults.UnsafePath = ap (flat_map astray_places) listings_kept
  places_kept faults.DuplicateEntry = ap (flat_map repeated_places) listings_kept
  places_kept faults.MissingFile =
      ap (flat_map (missing_places files)) listings_kept
      ∙ flat_same (missing_places files) (missing_places facts.files) missing_kept
      (listings_of facts.files)
  places_kept faults.UnlistedFile =
      ap (flat_map (unlisted_places files)) listings_kept
      ∙ flat_same (unlisted_places files) (unlisted_places facts.files) unlisted_kept
      (listings_of facts.files)
  places_kept faults.WrongDigest = ap (flat_map (wrong_places files)) listings_kept ∙ wrong_kept
  places_kept faults.Memory = refl
  places_kept fault = held fault _

  pub findings_kept : findings_of (only_named facts) ≡ findings_of facts
  unfolding findings_of
  findings_kept =
      flat_same (findings_by (only_named facts)) (findings_by facts)
      (λ fault. ap (map (λ place. record { fault = fault; place = place })) (places_kept fault))
      all_faults

-- of a tree whose named digests alone are computed
pub findings_named : (tree : Files)
    → findings_of (named_facts_of tree) ≡ findings_of (facts_of_tree tree)
findings_named tree = ap findings_of (named_facts tree) ∙ findings_kept (facts_of_tree tree)

pub explanation_named : (tree : Files)
    → explanation_of (named_facts_of tree) ≡ explanation_of (facts_of_tree tree)
unfolding explanation_of
explanation_named tree =
    ap (flat_map (λ finding. printed_fault finding.fault finding.place)) (findings_named tree)
