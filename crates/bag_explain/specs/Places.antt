-- Where each fault of a bag is: the files, the lines and the entries that are wrong.
use Rattle.std.specs.Prelude.{ℕ, Bool, true, false, List, [], ◌∷◌, ◌++◌, codes}
use Rattle.std.specs.Prelude.{Option, Some, None, Result, Ok, Err}
use Rattle.std.specs.List.{flat_map}
use Rattle.bag_text.specs.declared.algorithm.Algorithm.{Algorithm}
use Rattle.bag_text.specs.ListedFile.{ListedFile}
use Rattle.bag_text.specs.Readers.{declaration_of}
use Rattle.bag_tree.specs.Path.{payload_folder}
use Rattle.bag_tree.specs.Facts.{FileFact, TreeFacts}
use Rattle.bag_check.specs.declared.fault.BagFault.{BagFault}
use Rattle.bag_check.specs.declared.fault.BagFault.TheVariants.{NoDeclaration, BadDeclaration}
use Rattle.bag_check.specs.declared.fault.BagFault.TheVariants.{UnsupportedVersion}
use Rattle.bag_check.specs.declared.fault.BagFault.TheVariants.{UnsupportedEncoding}
use Rattle.bag_check.specs.declared.fault.BagFault.TheVariants.{HasFetch, NoPayloadFolder}
use Rattle.bag_check.specs.declared.fault.BagFault.TheVariants.{NoSha512Manifest, UnknownAlgorithm}
use Rattle.bag_check.specs.declared.fault.BagFault.TheVariants.{MalformedLine, UnsafePath}
use Rattle.bag_check.specs.declared.fault.BagFault.TheVariants.{DuplicateEntry, MissingFile}
use Rattle.bag_check.specs.declared.fault.BagFault.TheVariants.{UnlistedFile, WrongDigest, Memory}
use Rattle.bag_check.specs.declared.manifests.Kind.{Kind}
use Rattle.bag_check.specs.declared.manifests.Kind.TheVariants.{Payload, Tag}
use Rattle.bag_check.specs.Manifests.{manifest_name, sha512_manifest, is_listed, is_unknown}
use Rattle.bag_check.specs.Check.{holds, declaration_in, is_astray, is_missing, is_wrong}
use Rattle.bag_check.specs.Check.{is_unlisted}
use Rattle.bag_explain.specs.Lines.{NumberedFile}
use Rattle.bag_explain.specs.Listings.{NumberedListing, listings_of, unless_malformed}

-- a place in a tree
pub data Place : Type 0 where
  -- the file or folder of this path
  at_file : (path : List ℕ) → Place
  -- the line of this number of the text of this name
  at_line : (name : List ℕ) (line : ℕ) → Place
  -- the path that this line of the manifest of this name lists
  at_entry : (path name : List ℕ) (line : ℕ) → Place
  -- the digest by the algorithm that it lists
  at_digest : (path : List ℕ) (algorithm : Algorithm) (name : List ℕ) (line : ℕ) → Place
  -- the file of this path, which the manifest of this name doesn't list
  at_unlisted : (path name : List ℕ) → Place

-- the list, where the test passes
abbrev pub when : {X : Type 0} → Bool → List X → List X
when true xs = xs
when false xs = []

-- ---- what a manifest lists

abbrev pub name_of : NumberedListing → List ℕ
name_of listing = manifest_name listing.kind listing.algorithm

abbrev pub entry_place : NumberedListing → NumberedFile → Place
entry_place listing entry = at_entry entry.file.path (name_of listing) entry.line

abbrev pub digest_place : NumberedListing → NumberedFile → Place
digest_place listing entry =
    at_digest entry.file.path listing.algorithm (name_of listing) entry.line

-- the entries whose path an earlier entry has, if these come first
unfoldable pub repeated_after : List ListedFile → List NumberedFile → List NumberedFile
repeated_after before [] = []
repeated_after before (entry ∷ entries) =
    when (is_listed entry.file.path before) (entry ∷ [])
    ++ repeated_after (before ++ entry.file ∷ []) entries

-- the files that a manifest lists
abbrev pub files_in : List NumberedFile → List ListedFile
files_in [] = []
files_in (entry ∷ entries) = entry.file ∷ files_in entries

-- the list, of a payload manifest alone
abbrev pub of_payload : {X : Type 0} → Kind → List X → List X
of_payload Payload xs = xs
of_payload Tag xs = []

-- ---- the places in one manifest of faults 9 to 14

-- a malformed line
abbrev pub malformed_at : NumberedListing → ℕ → List Place
malformed_at listing line = at_line (name_of listing) line ∷ []

abbrev pub malformed_places : NumberedListing → List Place
malformed_places listing = flat_map (malformed_at listing) listing.malformed

-- an entry, where its path is unsafe or on the wrong side of the payload's folder
abbrev pub astray_at : NumberedListing → NumberedFile → List Place
astray_at listing entry =
    when (is_astray listing.kind entry.file) (entry_place listing entry ∷ [])

abbrev pub astray_places : NumberedListing → List Place
astray_places listing = flat_map (astray_at listing) listing.files

-- an entry of a payload manifest, where an entry before it has its path
abbrev pub repeated_at : NumberedListing → NumberedFile → List Place
repeated_at listing entry = entry_place listing entry ∷ []

abbrev pub repeated_places : NumberedListing → List Place
repeated_places listing =
    of_payload listing.kind (flat_map (repeated_at listing) (repeated_after [] listing.files))

-- an entry, where its file isn't there
abbrev pub missing_at : List FileFact → NumberedListing → NumberedFile → List Place
missing_at files listing entry =
    when (is_missing files entry.file) (entry_place listing entry ∷ [])

abbrev pub missing_places : List FileFact → NumberedListing → List Place
missing_places files listing = flat_map (missing_at files listing) listing.files

-- a payload file, where a payload manifest doesn't list it
abbrev pub unlisted_at : NumberedListing → FileFact → List Place
unlisted_at listing file =
    when (is_unlisted (files_in listing.files) file)
    (at_unlisted file.path (name_of listing) ∷ [])

abbrev pub unlisted_places : List FileFact → NumberedListing → List Place
unlisted_places files listing =
    unless_malformed listing.malformed
    (of_payload listing.kind (flat_map (unlisted_at listing) files))

-- an entry, where its file is there and has another digest
abbrev pub wrong_at : List FileFact → NumberedListing → NumberedFile → List Place
wrong_at files listing entry =
    when (is_wrong listing.algorithm files entry.file) (digest_place listing entry ∷ [])

abbrev pub wrong_places : List FileFact → NumberedListing → List Place
wrong_places files listing = flat_map (wrong_at files listing) listing.files

-- a manifest of an algorithm that isn't read
abbrev pub unknown_at : FileFact → List Place
unknown_at file = when (is_unknown file) (at_file file.path ∷ [])

-- ---- the places of each fault

-- the line of `bagit.txt` that is malformed, missing or one too many
abbrev pub faulty_line : Result (List ℕ × List ℕ) ℕ → List Place
faulty_line (Ok declared) = []
faulty_line (Err line) = at_line (codes "bagit.txt") line ∷ []

abbrev pub faulty_lines : Option (List ℕ) → List Place
faulty_lines None = []
faulty_lines (Some text) = faulty_line (declaration_of text)

-- The places in the tree where the fault holds. If a required file is missing, its own path is the
-- place.
unfoldable pub places_of : BagFault → TreeFacts → List Place
places_of NoDeclaration facts =
    when (holds NoDeclaration facts) (at_file (codes "bagit.txt") ∷ [])
places_of BadDeclaration facts = faulty_lines (declaration_in facts)
places_of UnsupportedVersion facts =
    when (holds UnsupportedVersion facts) (at_line (codes "bagit.txt") 1 ∷ [])
places_of UnsupportedEncoding facts =
    when (holds UnsupportedEncoding facts) (at_line (codes "bagit.txt") 2 ∷ [])
places_of HasFetch facts = when (holds HasFetch facts) (at_file (codes "fetch.txt") ∷ [])
places_of NoPayloadFolder facts =
    when (holds NoPayloadFolder facts) (at_file payload_folder ∷ [])
places_of NoSha512Manifest facts =
    when (holds NoSha512Manifest facts) (at_file sha512_manifest ∷ [])
places_of UnknownAlgorithm facts = flat_map unknown_at facts.files
places_of MalformedLine facts = flat_map malformed_places (listings_of facts.files)
places_of UnsafePath facts = flat_map astray_places (listings_of facts.files)
places_of DuplicateEntry facts = flat_map repeated_places (listings_of facts.files)
places_of MissingFile facts = flat_map (missing_places facts.files) (listings_of facts.files)
places_of UnlistedFile facts = flat_map (unlisted_places facts.files) (listings_of facts.files)
places_of WrongDigest facts = flat_map (wrong_places facts.files) (listings_of facts.files)
places_of Memory facts = []
