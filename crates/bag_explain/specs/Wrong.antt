-- At which place a fault holds, in the words of the standard (RFC 8493, 2 and 3): what a manifest
-- lists on which line, and what the tree has.
use Rattle.std.specs.Prelude.{◌≡◌, ◌<◌, ℕ, true, List, Some, Ok, Err, Contains, codes}
use Rattle.bag_text.specs.ListedFile.{ListedFile}
use Rattle.bag_text.specs.Lines.{lines_of}
use Rattle.bag_text.specs.Readers.{declaration_of}
use Rattle.bag_tree.specs.Path.{payload_folder}
use Rattle.bag_tree.specs.Facts.{FileFact, TreeFacts}
use Rattle.bag_check.specs.declared.fault.BagFault.{BagFault}
use Rattle.bag_check.specs.declared.fault.BagFault.TheVariants.{NoDeclaration, BadDeclaration}
use Rattle.bag_check.specs.declared.fault.BagFault.TheVariants.{UnsupportedVersion}
use Rattle.bag_check.specs.declared.fault.BagFault.TheVariants.{UnsupportedEncoding}
use Rattle.bag_check.specs.declared.fault.BagFault.TheVariants.{HasFetch, NoPayloadFolder}
use Rattle.bag_check.specs.declared.fault.BagFault.TheVariants.{NoSha512Manifest, UnknownAlgorithm}
use Rattle.bag_check.specs.declared.fault.BagFault.TheVariants.{MalformedLine, UnsafePath}
use Rattle.bag_check.specs.declared.fault.BagFault.TheVariants.{DuplicateEntry, MissingFile}
use Rattle.bag_check.specs.declared.fault.BagFault.TheVariants.{UnlistedFile, WrongDigest}
use Rattle.bag_check.specs.declared.manifests.Kind.TheVariants.{Payload}
use Rattle.bag_check.specs.Manifests.{Manifest, manifests_of, manifest_name, sha512_manifest}
use Rattle.bag_check.specs.Manifests.{entries, is_unknown}
use Rattle.bag_check.specs.Check.{holds, declaration_in, is_astray, is_missing, is_wrong}
use Rattle.bag_check.specs.Check.{is_unlisted}
use Rattle.bag_explain.specs.Lines.{NumberedFile}
use Rattle.bag_explain.specs.LineNumbers.{ListsAt, IsMalformedAt}
use Rattle.bag_explain.specs.Places.{Place, at_file, at_line, at_entry, at_digest, at_unlisted}

-- the manifest is among the tree's, and has this name
abbrev pub IsNamed : TreeFacts → List ℕ → Manifest → Type 0
IsNamed facts name manifest =
    Contains (manifests_of facts.files) manifest
    × (manifest_name manifest.kind manifest.algorithm ≡ name)

-- no line of the manifest is malformed, and the line of the entry's number lists its file
abbrev pub ListsNumbered : Manifest → NumberedFile → Type 0
ListsNumbered manifest entry =
    ((files : List ListedFile) × (entries manifest ≡ Ok files))
    × ListsAt manifest.algorithm (lines_of manifest.text) entry

-- a manifest of this name lists on this line a file of this path, and `Is` holds of both
abbrev pub HasEntry : TreeFacts → List ℕ → List ℕ → ℕ → (Manifest → ListedFile → Type 0) → Type 0
HasEntry facts path name line Is =
    (manifest : Manifest) × (file : ListedFile) × IsNamed facts name manifest
    × ListsNumbered manifest (record { line = line; file = file }) × (file.path ≡ path)
    × Is manifest file

-- the manifest lists a file of this path on an earlier line
abbrev pub ListsEarlier : Manifest → List ℕ → ℕ → Type 0
ListsEarlier manifest path line =
    (entry : NumberedFile) × ListsNumbered manifest entry × (entry.file.path ≡ path)
    × (entry.line < line)

-- the fault holds of the tree at this place
unfoldable pub IsWrongAt : BagFault → TreeFacts → Place → Type 0
IsWrongAt NoDeclaration facts place =
    (holds NoDeclaration facts ≡ true) × (place ≡ at_file (codes "bagit.txt"))
IsWrongAt BadDeclaration facts place =
    (text : List ℕ) × (line : ℕ) × (declaration_in facts ≡ Some text)
    × (declaration_of text ≡ Err line) × (place ≡ at_line (codes "bagit.txt") line)
IsWrongAt UnsupportedVersion facts place =
    (holds UnsupportedVersion facts ≡ true) × (place ≡ at_line (codes "bagit.txt") 1)
IsWrongAt UnsupportedEncoding facts place =
    (holds UnsupportedEncoding facts ≡ true) × (place ≡ at_line (codes "bagit.txt") 2)
IsWrongAt HasFetch facts place =
    (holds HasFetch facts ≡ true) × (place ≡ at_file (codes "fetch.txt"))
IsWrongAt NoPayloadFolder facts place =
    (holds NoPayloadFolder facts ≡ true) × (place ≡ at_file payload_folder)
IsWrongAt NoSha512Manifest facts place =
    (holds NoSha512Manifest facts ≡ true) × (place ≡ at_file sha512_manifest)
IsWrongAt UnknownAlgorithm facts (at_file path) =
    (file : FileFact) × Contains facts.files file × (file.path ≡ path) × (is_unknown file ≡ true)
IsWrongAt MalformedLine facts (at_line name line) =
    (manifest : Manifest) × IsNamed facts name manifest
    × IsMalformedAt manifest.algorithm (lines_of manifest.text) line
IsWrongAt UnsafePath facts (at_entry path name line) =
    HasEntry facts path name line (λ manifest file. is_astray manifest.kind file ≡ true)
IsWrongAt DuplicateEntry facts (at_entry path name line) =
    HasEntry facts path name line
    (λ manifest file. (manifest.kind ≡ Payload) × ListsEarlier manifest path line)
IsWrongAt MissingFile facts (at_entry path name line) =
    HasEntry facts path name line (λ manifest file. is_missing facts.files file ≡ true)
IsWrongAt UnlistedFile facts (at_unlisted path name) =
    (manifest : Manifest) × (files : List ListedFile) × (file : FileFact)
    × IsNamed facts name manifest × (manifest.kind ≡ Payload) × (entries manifest ≡ Ok files)
    × Contains facts.files file × (file.path ≡ path) × (is_unlisted files file ≡ true)
IsWrongAt WrongDigest facts (at_digest path algorithm name line) =
    HasEntry facts path name line
    (λ manifest file. (manifest.algorithm ≡ algorithm)
    × (is_wrong algorithm facts.files file ≡ true))
IsWrongAt fault facts place = ⊥
