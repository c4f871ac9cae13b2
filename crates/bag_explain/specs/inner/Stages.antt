-- The parts of an explanation as they are written, for the contracts of private functions.
use Rattle.std.specs.Prelude.{ℕ, Bool, List, [], ◌∷◌, ◌++◌}
use Rattle.std.specs.List.{flat_map}
use Rattle.bag_tree.specs.Facts.{FileFact, TreeFacts}
use Rattle.bag_check.specs.declared.fault.BagFault.{BagFault}
use Rattle.bag_check.specs.declared.fault.BagFault.TheVariants.{NoDeclaration, BadDeclaration}
use Rattle.bag_check.specs.declared.fault.BagFault.TheVariants.{UnsupportedVersion}
use Rattle.bag_check.specs.declared.fault.BagFault.TheVariants.{UnsupportedEncoding}
use Rattle.bag_check.specs.declared.fault.BagFault.TheVariants.{HasFetch, NoPayloadFolder}
use Rattle.bag_check.specs.declared.fault.BagFault.TheVariants.{NoSha512Manifest, UnknownAlgorithm}
use Rattle.bag_check.specs.declared.fault.BagFault.TheVariants.{MalformedLine, UnsafePath}
use Rattle.bag_check.specs.declared.fault.BagFault.TheVariants.{DuplicateEntry, MissingFile}
use Rattle.bag_check.specs.declared.fault.BagFault.TheVariants.{UnlistedFile, WrongDigest}
use Rattle.bag_explain.specs.declared.entries.ListingFault.{ListingFault}
use Rattle.bag_explain.specs.declared.entries.ListingFault.TheVariants as listings
use Rattle.bag_explain.specs.declared.entry_fault.EntryFault.{EntryFault}
use Rattle.bag_explain.specs.declared.entry_fault.EntryFault.TheVariants.{Astray, Missing, Wrong}
use Rattle.bag_explain.specs.Lines.{NumberedFile}
use Rattle.bag_explain.specs.Listings.{NumberedListing}
use Rattle.bag_explain.specs.Places.{Place, places_of, astray_at, missing_at, wrong_at}
use Rattle.bag_explain.specs.Places.{malformed_places, repeated_places, unlisted_places}
use Rattle.bag_explain.specs.Findings.{printed_places}

-- the place of an entry, where it has the fault
abbrev pub faulty_at : EntryFault → List FileFact → NumberedListing → NumberedFile → List Place
faulty_at Astray files listing = astray_at listing
faulty_at Missing files listing = missing_at files listing
faulty_at Wrong files listing = wrong_at files listing

abbrev pub entry_fault_of : EntryFault → BagFault
entry_fault_of Astray = UnsafePath
entry_fault_of Missing = MissingFile
entry_fault_of Wrong = WrongDigest

-- the places of a fault in one manifest
abbrev pub places_in : ListingFault → List FileFact → NumberedListing → List Place
places_in listings.Malformed files listing = malformed_places listing
places_in (listings.OfEntry fault) files listing =
    flat_map (faulty_at fault files listing) listing.files
places_in listings.Repeated files listing = repeated_places listing
places_in listings.Unlisted files listing = unlisted_places files listing

abbrev pub fault_of : ListingFault → BagFault
fault_of listings.Malformed = MalformedLine
fault_of (listings.OfEntry fault) = entry_fault_of fault
fault_of listings.Repeated = DuplicateEntry
fault_of listings.Unlisted = UnlistedFile

-- the lines of a fault in these manifests
abbrev pub printed_in : ListingFault → List FileFact → List NumberedListing → List ℕ
printed_in fault files found =
    flat_map (λ listing. printed_places (fault_of fault) (places_in fault files listing)) found

abbrev pub tree_of : List FileFact → Bool → TreeFacts
tree_of files payload = record { files = files; payload = payload }

-- the lines of a fault
abbrev pub printed_of : BagFault → List FileFact → Bool → List ℕ
printed_of fault files payload =
    printed_places fault (places_of fault (tree_of files payload))

-- the lines of these faults
abbrev pub printed_faults : TreeFacts → List BagFault → List ℕ
printed_faults facts faults =
    flat_map (λ fault. printed_places fault (places_of fault facts)) faults

-- the faults for which no manifest is read; those of what manifests list, but for wrong digests; and
-- all of these
abbrev pub first_faults : List BagFault
first_faults =
    NoDeclaration ∷ BadDeclaration ∷ UnsupportedVersion ∷ UnsupportedEncoding ∷ HasFetch
    ∷ NoPayloadFolder ∷ NoSha512Manifest ∷ UnknownAlgorithm ∷ []

abbrev pub listing_gaps : List ListingFault
listing_gaps =
    listings.Malformed ∷ listings.OfEntry Astray ∷ listings.Repeated ∷ listings.OfEntry Missing
    ∷ listings.Unlisted ∷ []

abbrev pub listing_faults : List ListingFault
listing_faults = listing_gaps ++ listings.OfEntry Wrong ∷ []

-- the lines of these faults of what manifests list
abbrev pub printed_listed : List ListingFault → List FileFact → List NumberedListing → List ℕ
printed_listed faults files found = flat_map (λ fault. printed_in fault files found) faults

-- the lines of all of them, and of all but wrong digests
abbrev pub printed_listings : List FileFact → List NumberedListing → List ℕ
printed_listings = printed_listed listing_faults

abbrev pub printed_gaps : List FileFact → List NumberedListing → List ℕ
printed_gaps = printed_listed listing_gaps
