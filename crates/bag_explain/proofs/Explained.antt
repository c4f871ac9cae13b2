-- An explanation is its parts, as they are written.
use Rattle.std.proofs.Common.{◌≡◌, ℕ, Bool, List, [], ◌∷◌, ◌++◌, map, refl, sym, ap}
use Rattle.std.proofs.Common.{◌∙◌, append-nil}
use Rattle.std.specs.List.{flat_map}
use Rattle.std.proofs.lemmas.Grind.{flat_map-append}
use Rattle.std.proofs.lemmas.List.Folds.{flat_map-map}
use Rattle.bag_tree.specs.Facts.{FileFact, TreeFacts}
use Rattle.bag_check.specs.declared.fault.BagFault.{BagFault}
use Rattle.bag_check.specs.Check.{all_faults}
use Rattle.bag_check.specs.Complete.{gaps}
use Rattle.bag_check.proofs.NamedLaws.{flat_same}
use Rattle.bag_explain.specs.declared.entries.ListingFault.{ListingFault}
use Rattle.bag_explain.specs.declared.entries.ListingFault.TheVariants.{Malformed, OfEntry}
use Rattle.bag_explain.specs.declared.entries.ListingFault.TheVariants.{Repeated, Unlisted}
use Rattle.bag_explain.specs.declared.entry_fault.EntryFault.TheVariants.{Astray, Missing, Wrong}
use Rattle.bag_explain.specs.Listings.{NumberedListing, listings_of}
use Rattle.bag_explain.specs.Places.{Place, places_of}
use Rattle.bag_explain.specs.Findings.{Finding, findings_by, findings_of, printed_fault}
use Rattle.bag_explain.specs.Findings.{printed_places, explanation_of, gap_findings_of}
use Rattle.bag_explain.specs.Findings.{gap_explanation_of}
use Rattle.bag_explain.specs.inner.Stages.{fault_of, places_in, printed_in, tree_of, printed_faults}
use Rattle.bag_explain.specs.inner.Stages.{first_faults, listing_faults, listing_gaps}
use Rattle.bag_explain.specs.inner.Stages.{printed_listed, printed_listings, printed_gaps}
use Rattle.bag_explain.proofs.FaultLines.{after_both}

flat_map-flat_map : {X Y Z : Type 0} (g : Y → List Z) (f : X → List Y) (xs : List X)
    → flat_map g (flat_map f xs) ≡ flat_map (λ x. flat_map g (f x)) xs
flat_map-flat_map g f [] = refl
flat_map-flat_map g f (x ∷ xs) =
    rw (flat_map-append g (f x) (flat_map f xs), flat_map-flat_map g f xs)

abbrev printed : Finding → List ℕ
printed finding = printed_fault finding.fault finding.place

-- the lines of one fault
by_fault : (facts : TreeFacts) (fault : BagFault)
    → flat_map printed (findings_by facts fault) ≡ printed_places fault (places_of fault facts)
by_fault facts fault =
    flat_map-map printed (λ (place : Place). record { fault = fault; place = place })
    (places_of fault facts)

by_faults : (facts : TreeFacts) (faults : List BagFault)
    → flat_map printed (flat_map (findings_by facts) faults) ≡ printed_faults facts faults
by_faults facts faults =
    flat_map-flat_map printed (findings_by facts) faults
    ∙ flat_same (λ (fault : BagFault). flat_map printed (findings_by facts fault))
    (λ (fault : BagFault). printed_places fault (places_of fault facts)) (by_fault facts) faults

all_places : (facts : TreeFacts) (fault : ListingFault)
    → places_of (fault_of fault) facts
    ≡ flat_map (places_in fault facts.files) (listings_of facts.files)
unfolding places_of
all_places facts Malformed = refl
all_places facts (OfEntry Astray) = refl
all_places facts (OfEntry Missing) = refl
all_places facts (OfEntry Wrong) = refl
all_places facts Repeated = refl
all_places facts Unlisted = refl

-- the lines of one fault of what manifests list
by_listings : (facts : TreeFacts) (fault : ListingFault)
    → printed_places (fault_of fault) (places_of (fault_of fault) facts)
    ≡ printed_in fault facts.files (listings_of facts.files)
by_listings facts fault =
    ap (printed_places (fault_of fault)) (all_places facts fault)
    ∙ flat_map-flat_map (printed_fault (fault_of fault)) (places_in fault facts.files)
    (listings_of facts.files)

-- the lines of those for which no manifest is read, and then of these
parts-are : (facts : TreeFacts) (listed : List ListingFault)
    → printed_faults facts (first_faults ++ map fault_of listed)
    ≡ printed_faults facts first_faults
    ++ printed_listed listed facts.files (listings_of facts.files)
parts-are facts listed =
    let each = λ (fault : BagFault). printed_places fault (places_of fault facts) in
    rw (flat_map-append each first_faults (map fault_of listed), flat_map-map each fault_of listed)
    (ap (λ t. printed_faults facts first_faults ++ t)
    (flat_same (λ (fault : ListingFault). each (fault_of fault))
    (λ (fault : ListingFault). printed_in fault facts.files (listings_of facts.files))
    (by_listings facts) listed))

module _ (facts : TreeFacts) (files : List FileFact) (payload : Bool)
    (found : List NumberedListing) (empty first all : List ℕ) (same_files : files ≡ facts.files)
    (same_payload : payload ≡ facts.payload) (listed : found ≡ listings_of files)
    (none : empty ≡ [])
    (tags : first ≡ empty ++ printed_faults (tree_of files payload) first_faults) where
  -- what is written for a tree of these parts
  written-is : (faults : List ListingFault) → all ≡ first ++ printed_listed faults files found
      → all ≡ printed_faults facts (first_faults ++ map fault_of faults)
  written-is faults rest =
      rw (rest, tags, none, listed, same_files, same_payload) (sym (parts-are facts faults))

  pub explained : all ≡ first ++ printed_listings files found → all ≡ explanation_of facts
  unfolding explanation_of findings_of
  explained rest = written-is listing_faults rest ∙ sym (by_faults facts all_faults)

  pub gaps_explained : all ≡ first ++ printed_gaps files found → all ≡ gap_explanation_of facts
  unfolding gap_explanation_of gap_findings_of
  gaps_explained rest = written-is listing_gaps rest ∙ sym (by_faults facts gaps)

-- one fault more is written
pub fault_more : {before after : List ℕ} (facts : TreeFacts) (faults : List BagFault)
    (fault : BagFault) (start : List ℕ) → before ≡ start ++ printed_faults facts faults
    → after ≡ before ++ printed_places fault (places_of fault facts)
    → after ≡ start ++ printed_faults facts (faults ++ fault ∷ [])
fault_more {before} {after} facts faults fault start e h =
    rw (
      flat_map-append (λ (f : BagFault). printed_places f (places_of f facts)) faults (fault ∷ []),
      append-nil (printed_places fault (places_of fault facts)),
    )
    (after_both start (printed_faults facts faults) (printed_places fault (places_of fault facts))
    before after e h)

pub no_faults : (start : List ℕ) → start ≡ start ++ []
no_faults start = sym (append-nil start)
