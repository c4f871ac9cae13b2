-- When a tree of files is a valid bag (RFC 8493, 2 and 3), in this project's profile of it, in sets
-- and relations; no fault is named here. `valid_law` says that the valid trees are exactly those in
-- which no fault holds. The profile refuses some bags that RFC 8493 allows (Check.antt names them),
-- and asks less of a tag manifest: that what it lists exists, outside the payload's folder, and has
-- its digests.
use Rattle.std.specs.Prelude.{◌≡◌, ◌≢◌, ◌⊎◌, ◌↔◌, ℕ, List, ◌++◌, map, codes, Some}
use Rattle.std.specs.Prelude.{IsTrue, Contains, All, AllPairs}
use Rattle.std.specs.Str.{str_to_ascii_lowercase}
use Rattle.bag_text.specs.declared.algorithm.Algorithm.{Algorithm}
use Rattle.bag_text.specs.Declarations.{IsDeclaration}
use Rattle.bag_text.specs.ListedFile.{ListedFile}
use Rattle.bag_text.specs.Manifests.{IsManifest}
use Rattle.bag_tree.specs.Path.{slash, is_unsafe, is_payload}
use Rattle.bag_tree.specs.Digests.{digest_by}
use Rattle.bag_tree.specs.Facts.{FileFact, TreeFacts}
use Rattle.bag_check.specs.declared.manifests.Kind.{Kind}
use Rattle.bag_check.specs.declared.manifests.Kind.TheVariants.{Payload, Tag}
use Rattle.bag_check.specs.Manifests.{file_at, text_at, prefix_of, manifest_name, sha512_manifest}

-- ---- the files of a tree: a map from paths to files. Of two with one path, the first is meant.

-- there is a file of this path
abbrev pub IsFile : TreeFacts → List ℕ → Type 0
IsFile facts path = Contains (map (λ file. file.path) facts.files) path

-- there is a file of this path, in the payload's folder
abbrev pub IsPayloadFile : TreeFacts → List ℕ → Type 0
IsPayloadFile facts path = IsFile facts path × IsTrue (is_payload path)

-- there is a file of this path, outside the payload's folder
abbrev pub IsTagFile : TreeFacts → List ℕ → Type 0
IsTagFile facts path = IsFile facts path × ¬ (IsTrue (is_payload path))

-- there is a text of this path, of these bytes
abbrev pub HasText : TreeFacts → List ℕ → List ℕ → Type 0
HasText facts path text = text_at path facts.files ≡ Some text

-- ---- the declaration

abbrev pub IsReadVersion : List ℕ → Type 0
IsReadVersion version = (version ≡ codes "1.0") ⊎ (version ≡ codes "0.97")

-- `UTF-8`, in either case
abbrev pub IsReadEncoding : List ℕ → Type 0
IsReadEncoding encoding = str_to_ascii_lowercase encoding ≡ codes "utf-8"

-- `bagit.txt` is there and declares a version and an encoding that are read
abbrev pub IsDeclared : TreeFacts → Type 0
IsDeclared facts =
    (text : List ℕ) × (version : List ℕ) × (encoding : List ℕ)
    × HasText facts (codes "bagit.txt") text × IsDeclaration text version encoding
    × IsReadVersion version × IsReadEncoding encoding

-- ---- the manifests

-- `manifest-`, or `tagmanifest-`, and then any text or none and `.txt`, at the tree's own level
abbrev pub IsManifestName : List ℕ → Type 0
IsManifestName path =
    (kind : Kind) × (name : List ℕ) × (path ≡ prefix_of kind ++ (name ++ codes ".txt"))
    × ¬ (Contains path slash)

-- the name of a manifest of one of the four algorithms
abbrev pub IsReadManifestName : List ℕ → Type 0
IsReadManifestName path =
    (kind : Kind) × (algorithm : Algorithm) × (path ≡ manifest_name kind algorithm)

-- The paths that a payload manifest lists are those of the payload's files, each once. Those that
-- a tag manifest lists are paths of tag files.
abbrev pub ListsFiles : Kind → TreeFacts → List (List ℕ) → Type 0
ListsFiles Payload facts paths =
    AllPairs (λ a b. a ≢ b) paths
    × ((path : List ℕ) → Contains paths path ↔ IsPayloadFile facts path)
ListsFiles Tag facts paths = All (IsTagFile facts) paths

-- the entry's digest is that of the file of its path
abbrev pub IsDigested : TreeFacts → Algorithm → ListedFile → Type 0
IsDigested facts algorithm entry =
    (file : FileFact) × (file_at entry.path facts.files ≡ Some file)
    × (digest_by algorithm file.digests ≡ Some entry.digest)

-- what a manifest of this kind and algorithm lists is as it has to be
pub record IsListing (facts : TreeFacts) (kind : Kind) (algorithm : Algorithm)
    (entries : List ListedFile) : Type 0 where
  pub safe : All (λ entry. ¬ (IsTrue (is_unsafe entry.path))) entries
  pub files : ListsFiles kind facts (map (λ entry. entry.path) entries)
  pub digests : All (IsDigested facts algorithm) entries

-- ---- the bag

-- The tree is a valid bag: what it declares is read; there is no `fetch.txt`; `data` exists; there
-- is a `manifest-sha512.txt`; each manifest is of one of the four algorithms, its text lists files,
-- and what it lists is as it has to be.
pub record IsValid (facts : TreeFacts) : Type 0 where
  pub declared : IsDeclared facts
  pub no_fetch : ¬ (IsFile facts (codes "fetch.txt"))
  pub payload : IsTrue facts.payload
  pub sha512 : IsFile facts sha512_manifest
  pub known : (path : List ℕ) → IsFile facts path → IsManifestName path → IsReadManifestName path
  pub listed : (kind : Kind) (algorithm : Algorithm) (text : List ℕ)
      → HasText facts (manifest_name kind algorithm) text
      → (entries : List ListedFile)
      × IsManifest algorithm text entries × IsListing facts kind algorithm entries
