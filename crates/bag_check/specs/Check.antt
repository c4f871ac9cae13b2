-- When a tree of files is a valid bag (RFC 8493, 3), in this project's profile of it, and what
-- checking it answers. RFC 8493 knows bags that have the faults UnsupportedVersion,
-- UnsupportedEncoding, HasFetch, NoSha512Manifest and UnknownAlgorithm; bags of version 0.97 whose
-- payload manifests each list a part (UnlistedFile); and tag files whose names begin with a star
-- (MissingFile). A tag manifest has to list only what exists and has the listed digests; it needn't
-- list every manifest.
use Rattle.std.specs.Prelude.{ℕ, Bool, false, not, ◌&&◌, ◌||◌, List, [], ◌∷◌, codes}
use Rattle.std.specs.Prelude.{Option, Some, None, unwrap_or, Result, Ok, Err, is_err}
use Rattle.std.specs.List.{list_any, find}
use Rattle.std.specs.Str.{bytes_eq, str_eq_ignore_ascii_case}
use Rattle.sha2.specs.Sha512.{sha512}
use Rattle.fed_types.specs.declared.bag_id.BagId.{BagId}
use Rattle.bag_text.specs.declared.algorithm.Algorithm.{Algorithm}
use Rattle.bag_text.specs.ListedFile.{ListedFile}
use Rattle.bag_text.specs.Readers.{declaration_of}
use Rattle.bag_tree.specs.Path.{is_unsafe, is_payload}
use Rattle.bag_tree.specs.Digests.{digest_by, is_digest}
use Rattle.bag_tree.specs.Facts.{FileFact, TreeFacts}
use Rattle.bag_check.specs.declared.fault.BagFault.{BagFault}
use Rattle.bag_check.specs.declared.fault.BagFault.TheVariants.{NoDeclaration, BadDeclaration}
use Rattle.bag_check.specs.declared.fault.BagFault.TheVariants.{UnsupportedVersion}
use Rattle.bag_check.specs.declared.fault.BagFault.TheVariants.{UnsupportedEncoding}
use Rattle.bag_check.specs.declared.fault.BagFault.TheVariants.{HasFetch, NoPayloadFolder}
use Rattle.bag_check.specs.declared.fault.BagFault.TheVariants.{NoSha512Manifest, UnknownAlgorithm}
use Rattle.bag_check.specs.declared.fault.BagFault.TheVariants.{MalformedLine, UnsafePath}
use Rattle.bag_check.specs.declared.fault.BagFault.TheVariants.{DuplicateEntry, MissingFile}
use Rattle.bag_check.specs.declared.fault.BagFault.TheVariants.{UnlistedFile, WrongDigest, Memory}
use Rattle.bag_check.specs.declared.manifests.Kind.{Kind}
use Rattle.bag_check.specs.declared.manifests.Kind.TheVariants.{Payload, Tag}
use Rattle.bag_check.specs.Manifests.{Manifest, manifests_of, entries, passes, is_malformed}
use Rattle.bag_check.specs.Manifests.{file_at, has_file, text_at, sha512_manifest}
use Rattle.bag_check.specs.Manifests.{is_unknown, is_listed}

-- ---- what `bagit.txt` declares

-- the text is there, and it isn't the two lines of a declaration
abbrev pub is_bad_declaration : Option (List ℕ) → Bool
is_bad_declaration None = false
is_bad_declaration (Some text) = is_err (declaration_of text)

-- what was read declares a version and an encoding that don't pass the test
abbrev pub fails : (List ℕ → List ℕ → Bool) → Result (List ℕ × List ℕ) ℕ → Bool
fails test (Ok (version, encoding)) = not (test version encoding)
fails test (Err line) = false

-- the text is a declaration, and its version and its encoding don't pass the test
abbrev pub declares_other : (List ℕ → List ℕ → Bool) → Option (List ℕ) → Bool
declares_other test None = false
declares_other test (Some text) = fails test (declaration_of text)

abbrev pub is_supported_version : List ℕ → Bool
is_supported_version version = bytes_eq version (codes "1.0") || bytes_eq version (codes "0.97")

-- an encoding's name is compared without its case
abbrev pub is_supported_encoding : List ℕ → Bool
is_supported_encoding encoding = str_eq_ignore_ascii_case encoding (codes "UTF-8")

-- ---- what manifests list

-- the path lies where this kind of manifest lists no file: a payload manifest lists the payload
-- alone, a tag manifest all else
abbrev pub is_on_wrong_side : Kind → List ℕ → Bool
is_on_wrong_side Payload path = not (is_payload path)
is_on_wrong_side Tag path = is_payload path

-- an entry's path is unsafe, or on the wrong side of the payload's folder
abbrev pub is_astray : Kind → ListedFile → Bool
is_astray kind entry = is_unsafe entry.path || is_on_wrong_side kind entry.path

-- a path is listed twice
unfoldable pub repeats : List ListedFile → Bool
repeats [] = false
repeats (entry ∷ entries) = is_listed entry.path entries || repeats entries

-- a payload file that isn't listed
abbrev pub is_unlisted : List ListedFile → FileFact → Bool
is_unlisted entries file = is_payload file.path && not (is_listed file.path entries)

-- the file is there, and its digest isn't this one; an unknown digest doesn't count
abbrev pub has_other_digest : Algorithm → List ℕ → Option FileFact → Bool
has_other_digest algorithm digest None = false
has_other_digest algorithm digest (Some file) =
    not (is_digest digest (digest_by algorithm file.digests))

-- the entry's file is there, and its digest isn't the entry's
abbrev pub is_wrong : Algorithm → List FileFact → ListedFile → Bool
is_wrong algorithm files entry = has_other_digest algorithm entry.digest (file_at entry.path files)

-- the entry's file isn't there
abbrev pub is_missing : List FileFact → ListedFile → Bool
is_missing files entry = not (has_file entry.path files)

-- some manifest, all of whose lines are well-formed, passes this test of what it lists
abbrev pub some_manifest : (Manifest → List ListedFile → Bool) → List FileFact → Bool
some_manifest test files =
    list_any (λ manifest. passes (test manifest) (entries manifest)) (manifests_of files)

-- the test, asked of payload manifests alone
abbrev pub if_payload : Kind → Bool → Bool
if_payload Payload test = test
if_payload Tag test = false

-- ---- the faults

-- what the tree's `bagit.txt` has
abbrev pub declaration_in : TreeFacts → Option (List ℕ)
declaration_in facts = text_at (codes "bagit.txt") facts.files

-- The fault holds of the tree.
unfoldable pub holds : BagFault → TreeFacts → Bool
holds NoDeclaration facts = not (has_file (codes "bagit.txt") facts.files)
holds BadDeclaration facts = is_bad_declaration (declaration_in facts)
holds UnsupportedVersion facts =
    declares_other (λ version encoding. is_supported_version version) (declaration_in facts)
holds UnsupportedEncoding facts =
    declares_other (λ version encoding. is_supported_encoding encoding) (declaration_in facts)
holds HasFetch facts = has_file (codes "fetch.txt") facts.files
holds NoPayloadFolder facts = not facts.payload
holds NoSha512Manifest facts = not (has_file sha512_manifest facts.files)
holds UnknownAlgorithm facts = list_any is_unknown facts.files
holds MalformedLine facts =
    list_any (λ manifest. is_malformed (entries manifest)) (manifests_of facts.files)
holds UnsafePath facts =
    some_manifest (λ manifest entries. list_any (is_astray manifest.kind) entries) facts.files
holds DuplicateEntry facts =
    some_manifest (λ manifest entries. if_payload manifest.kind (repeats entries)) facts.files
holds MissingFile facts =
    some_manifest (λ manifest entries. list_any (is_missing facts.files) entries) facts.files
holds UnlistedFile facts =
    some_manifest (λ manifest entries. if_payload manifest.kind
    (list_any (is_unlisted entries) facts.files)) facts.files
holds WrongDigest facts =
    some_manifest (λ manifest entries. list_any (is_wrong manifest.algorithm facts.files) entries)
    facts.files
holds Memory facts = false

-- the faults, in the order of their numbers
abbrev pub all_faults : List BagFault
all_faults =
    NoDeclaration ∷ BadDeclaration ∷ UnsupportedVersion ∷ UnsupportedEncoding ∷ HasFetch
    ∷ NoPayloadFolder ∷ NoSha512Manifest ∷ UnknownAlgorithm ∷ MalformedLine ∷ UnsafePath
    ∷ DuplicateEntry ∷ MissingFile ∷ UnlistedFile ∷ WrongDigest ∷ []

-- the first fault that holds
abbrev pub first_fault : TreeFacts → Option BagFault
first_fault facts = find (λ fault. holds fault facts) all_faults

-- the bag's identity: the SHA-512 of the bytes of its `manifest-sha512.txt`, as they are
abbrev pub identity_of : TreeFacts → BagId
identity_of facts = record { 0 = sha512 (unwrap_or (text_at sha512_manifest facts.files) []) }

abbrev pub answer : TreeFacts → Option BagFault → Result BagId BagFault
answer facts None = Ok (identity_of facts)
answer facts (Some fault) = Err fault

-- the identity of a valid bag, or the first fault that holds
unfoldable pub check_of : TreeFacts → Result BagId BagFault
check_of facts = answer facts (first_fault facts)
