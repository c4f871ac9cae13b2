-- The faults in the order in which checking looks for them, for the contracts of private functions:
-- the check proves that the first fault found so is the first that holds.
use Rattle.std.specs.Prelude.{◌≡◌, ℕ, Bool, true, false, not, if◌then◌else◌, codes}
use Rattle.std.specs.Prelude.{List, [], ◌∷◌, ◌++◌, Option, Some, None, Result, Ok, Err}
use Rattle.std.specs.List.{list_any, flat_map}
use Rattle.std.specs.Option.{option_or}
use Rattle.bag_text.specs.declared.algorithm.Algorithm.{Algorithm}
use Rattle.bag_text.specs.ListedFile.{ListedFile}
use Rattle.bag_text.specs.Readers.{declaration_of}
use Rattle.bag_tree.specs.Facts.{FileFact}
use Rattle.bag_check.specs.declared.fault.BagFault.{BagFault}
use Rattle.bag_check.specs.declared.fault.BagFault.TheVariants.{NoDeclaration, BadDeclaration}
use Rattle.bag_check.specs.declared.fault.BagFault.TheVariants.{UnsupportedVersion}
use Rattle.bag_check.specs.declared.fault.BagFault.TheVariants.{UnsupportedEncoding}
use Rattle.bag_check.specs.declared.fault.BagFault.TheVariants.{HasFetch, NoPayloadFolder}
use Rattle.bag_check.specs.declared.fault.BagFault.TheVariants.{NoSha512Manifest, UnknownAlgorithm}
use Rattle.bag_check.specs.declared.fault.BagFault.TheVariants.{MalformedLine, UnsafePath}
use Rattle.bag_check.specs.declared.fault.BagFault.TheVariants.{DuplicateEntry, MissingFile}
use Rattle.bag_check.specs.declared.fault.BagFault.TheVariants.{UnlistedFile, WrongDigest, Memory}
use Rattle.bag_check.specs.declared.manifests.Kind.{Kind}
use Rattle.bag_check.specs.Manifests.{Manifest, is_malformed, entries}
use Rattle.bag_check.specs.Manifests.{has_file, text_at, sha512_manifest, is_unknown}
use Rattle.bag_check.specs.Check.{is_supported_version, is_supported_encoding, is_astray, repeats}
use Rattle.bag_check.specs.Check.{is_missing, is_unlisted, is_wrong, if_payload}

-- ---- before any manifest is read

-- the first fault of what `bagit.txt` declares, or of its line that is malformed
abbrev pub fault_of_declared : Result (List ℕ × List ℕ) ℕ → Option BagFault
fault_of_declared (Err line) = Some BadDeclaration
fault_of_declared (Ok (version, encoding)) =
    if not (is_supported_version version) then Some UnsupportedVersion
    else if not (is_supported_encoding encoding) then Some UnsupportedEncoding
    else None

-- the first fault of the text of `bagit.txt`, or that there is none
abbrev pub fault_of_declaration : Option (List ℕ) → Option BagFault
fault_of_declaration None = Some NoDeclaration
fault_of_declaration (Some text) = fault_of_declared (declaration_of text)

-- the first fault of which files there are
unfoldable pub fault_of_names : List FileFact → Bool → Option BagFault
fault_of_names files payload =
    if has_file (codes "fetch.txt") files then Some HasFetch
    else if not payload then Some NoPayloadFolder
    else if not (has_file sha512_manifest files) then Some NoSha512Manifest
    else if list_any is_unknown files then Some UnknownAlgorithm
    else None

-- the first fault for which no manifest is read
unfoldable pub fault_of_tag_files : List FileFact → Bool → Option BagFault
fault_of_tag_files files payload =
    option_or (fault_of_declaration (text_at (codes "bagit.txt") files))
    (fault_of_names files payload)

-- ---- what the manifests list

-- a manifest, if every line of it is well-formed, and what it lists
pub record Listed : Type 0 where
  pub kind : Kind
  pub algorithm : Algorithm
  pub files : List ListedFile

abbrev pub listed_in : Kind → Algorithm → Result (List ListedFile) ℕ → List Listed
listed_in kind algorithm (Ok files) =
    record { kind = kind; algorithm = algorithm; files = files } ∷ []
listed_in kind algorithm (Err line) = []

-- what the manifests list, without those that have a malformed line
unfoldable pub listings : List Manifest → List Listed
listings manifests =
    flat_map (λ manifest. listed_in manifest.kind manifest.algorithm (entries manifest)) manifests

unfoldable pub some_malformed : List Manifest → Bool
some_malformed manifests = list_any (λ manifest. is_malformed (entries manifest)) manifests

-- reading the manifests puts these after what was found before
abbrev pub Reads : List Manifest → List Listed → List Listed → Type 0
Reads manifests before found =
    (some_malformed manifests ≡ false) × (found ≡ before ++ listings manifests)

-- reading the manifests fails so
abbrev pub FailsToRead : List Manifest → BagFault → Type 0
FailsToRead manifests Memory = Unit {0}
FailsToRead manifests MalformedLine = some_malformed manifests ≡ true
FailsToRead manifests fault = ⊥

-- ---- after all manifests were read

abbrev pub has_astray : Listed → Bool
has_astray listed = list_any (is_astray listed.kind) listed.files

abbrev pub has_repeat : Listed → Bool
has_repeat listed = if_payload listed.kind (repeats listed.files)

abbrev pub has_missing : List FileFact → Listed → Bool
has_missing files listed = list_any (is_missing files) listed.files

abbrev pub has_unlisted : List FileFact → Listed → Bool
has_unlisted files listed = if_payload listed.kind (list_any (is_unlisted listed.files) files)

abbrev pub has_wrong : List FileFact → Listed → Bool
has_wrong files listed = list_any (is_wrong listed.algorithm files) listed.files

-- the first fault of what the manifests list
unfoldable pub fault_of_listings : List FileFact → List Listed → Option BagFault
fault_of_listings files found =
    if list_any has_astray found then Some UnsafePath
    else if list_any has_repeat found then Some DuplicateEntry
    else if list_any (has_missing files) found then Some MissingFile
    else if list_any (has_unlisted files) found then Some UnlistedFile
    else if list_any (has_wrong files) found then Some WrongDigest
    else None
