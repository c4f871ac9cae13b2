-- The manifests of a tree of files, and what they list (RFC 8493, 2.1.3 and 2.2.1).
use Rattle.std.specs.Prelude.{ℕ, Bool, true, false, not, ◌&&◌, ◌==◌, codes}
use Rattle.std.specs.Prelude.{List, [], ◌∷◌, ◌++◌, length}
use Rattle.std.specs.Prelude.{Option, Some, None, unwrap_or, is_some, Result, Ok, Err}
use Rattle.std.specs.List.{list_any, find, flat_map}
use Rattle.std.specs.Option.{option_map}
use Rattle.std.specs.Str.{bytes_eq}
use Rattle.bag_text.specs.declared.algorithm.Algorithm.{Algorithm}
use Rattle.bag_text.specs.declared.algorithm.Algorithm.TheVariants.{Md5, Sha1, Sha256, Sha512}
use Rattle.bag_text.specs.Algorithms.{algorithm_name}
use Rattle.bag_text.specs.ListedFile.{ListedFile}
use Rattle.bag_text.specs.Readers.{entries_of}
use Rattle.bag_tree.specs.Path.{parts_of, is_text_named}
use Rattle.bag_tree.specs.Facts.{FileFact}
use Rattle.bag_check.specs.declared.manifests.Kind.{Kind}
use Rattle.bag_check.specs.declared.manifests.Kind.TheVariants.{Payload, Tag}

-- the file of this path, where there is one
abbrev pub file_at : List ℕ → List FileFact → Option FileFact
file_at path files = find (λ file. bytes_eq file.path path) files

-- there is a file of this path
abbrev pub has_file : List ℕ → List FileFact → Bool
has_file path files = is_some (file_at path files)

-- The bytes of the text of this path, if there is one. The facts of a file of such a name always
-- have its bytes: `FileFacts` keeps that.
abbrev pub text_at : List ℕ → List FileFact → Option (List ℕ)
text_at path files = option_map (λ file. unwrap_or file.text []) (file_at path files)

-- what the names of manifests of this kind begin with
abbrev pub prefix_of : Kind → List ℕ
prefix_of Payload = codes "manifest-"
prefix_of Tag = codes "tagmanifest-"

-- the name of the manifest, as `manifest-sha512.txt` or `tagmanifest-md5.txt`
unfoldable pub manifest_name : Kind → Algorithm → List ℕ
manifest_name kind algorithm = prefix_of kind ++ algorithm_name algorithm ++ codes ".txt"

abbrev pub kinds : List Kind
kinds = Payload ∷ Tag ∷ []

abbrev pub algorithms : List Algorithm
algorithms = Md5 ∷ Sha1 ∷ Sha256 ∷ Sha512 ∷ []

-- the manifest whose digest is the bag's identity
abbrev pub sha512_manifest : List ℕ
sha512_manifest = manifest_name Payload Sha512

-- the path is that of a manifest, of any algorithm or none: a file at the tree's own level
unfoldable pub is_manifest : List ℕ → Bool
is_manifest path =
    length (parts_of path) == 1 && list_any (λ kind. is_text_named (prefix_of kind) path) kinds

-- the path is that of a manifest of this kind, of an algorithm that is read
unfoldable pub is_known_of_kind : Kind → List ℕ → Bool
is_known_of_kind kind path =
    list_any (λ algorithm. bytes_eq path (manifest_name kind algorithm)) algorithms

-- the path is that of a manifest of an algorithm that is read
unfoldable pub is_known_manifest : List ℕ → Bool
is_known_manifest path = list_any (λ kind. is_known_of_kind kind path) kinds

-- a manifest of an algorithm that isn't read
unfoldable pub is_unknown : FileFact → Bool
is_unknown file = is_manifest file.path && not (is_known_manifest file.path)

-- a manifest: its kind, its algorithm and its bytes
pub record Manifest : Type 0 where
  pub kind : Kind
  pub algorithm : Algorithm
  pub text : List ℕ

-- the manifest, where its text is there
abbrev pub manifest_in : Kind → Algorithm → Option (List ℕ) → List Manifest
manifest_in kind algorithm None = []
manifest_in kind algorithm (Some text) =
    record { kind = kind; algorithm = algorithm; text = text } ∷ []

-- the manifest of this kind and algorithm, where there is one
unfoldable pub manifest_at : Kind → Algorithm → List FileFact → List Manifest
manifest_at kind algorithm files =
    manifest_in kind algorithm (text_at (manifest_name kind algorithm) files)

-- the manifests of this kind, of every algorithm that is read
unfoldable pub manifests_of_kind : Kind → List FileFact → List Manifest
manifests_of_kind kind files = flat_map (λ algorithm. manifest_at kind algorithm files) algorithms

-- the manifests among these files, of every kind and algorithm that is read
unfoldable pub manifests_of : List FileFact → List Manifest
manifests_of files = flat_map (λ kind. manifests_of_kind kind files) kinds

-- every line of the manifest is well-formed, and what it lists passes this test
abbrev pub passes : (List ListedFile → Bool) → Result (List ListedFile) ℕ → Bool
passes test (Ok entries) = test entries
passes test (Err line) = false

-- a line of the manifest is malformed
abbrev pub is_malformed : Result (List ListedFile) ℕ → Bool
is_malformed (Ok entries) = false
is_malformed (Err line) = true

-- What the manifest lists, or the number of its first malformed line. It lists exactly what it is
-- related to by `IsManifest`: `manifest_law` of bag_text says so.
abbrev pub entries : Manifest → Result (List ListedFile) ℕ
entries manifest = entries_of manifest.algorithm manifest.text

-- a path is listed
abbrev pub is_listed : List ℕ → List ListedFile → Bool
is_listed path entries = list_any (λ entry. bytes_eq entry.path path) entries
