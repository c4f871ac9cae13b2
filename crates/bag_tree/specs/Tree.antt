-- Trees of files, which files may be added to one, and what a tree is then.
use Rattle.std.specs.Prelude.{ℕ, Bool, true, false, ◌&&◌, ◌||◌, if◌then◌else◌, nat_lt, nat_le}
use Rattle.std.specs.Prelude.{List, [], ◌∷◌, ◌++◌, length, Option, Some, None}
use Rattle.std.specs.List.{list_any}
use Rattle.std.specs.Str.{bytes_eq}
use Rattle.bag_tree.specs.declared.fault.TreeFault.{TreeFault}
use Rattle.bag_tree.specs.declared.fault.TreeFault.TheVariants.{TooDeep, TooMany, TextTooLong}
use Rattle.bag_tree.specs.declared.fault.TreeFault.TheVariants.{BadPath}
use Rattle.bag_tree.specs.Path.{parts_of, is_unsafe, is_below, payload_folder, is_payload}
use Rattle.bag_tree.specs.Path.{is_read_text}

-- ---- the limits

-- The most parts of a path. Collections are seldom nested deeper; and 32 parts of 127 bytes, with
-- their slashes, are the 4,095 bytes that a system takes as a path.
abbrev pub deepest_path : ℕ
deepest_path = 32

-- The most files of a tree. What a checker keeps of each, its path and 136 bytes for its digests,
-- then fits in some tens of megabytes.
abbrev pub most_files : ℕ
most_files = 100000

-- The most bytes of a text that describes a bag, 64 MiB, since such texts alone are held whole. A
-- manifest of that many files has room for 671 bytes a line.
abbrev pub longest_text : ℕ
longest_text = 67108864

-- ---- trees

pub record File : Type 0 where
  pub path : List ℕ
  pub bytes : List ℕ

-- Files, in the order in which they came, and whether `data` was added as a folder. It is a finite
-- map from paths to bytes, since no file is added at a path that is there.
pub record Files : Type 0 where
  pub files : List File
  pub folder : Bool

-- an empty tree
abbrev pub no_files : Files
no_files = record { files = []; folder = false }

-- `data` exists where it was added, or where a file lies in it
abbrev pub payload_exists : Files → Bool
payload_exists tree = tree.folder || list_any (λ file. is_payload file.path) tree.files

-- one of the two paths is the other, or a folder above it
abbrev pub clash : List ℕ → List ℕ → Bool
clash a b = bytes_eq a b || is_below a b || is_below b a

-- no further file of this tree can have the path: it is unsafe, it is the path of the payload's
-- folder, or a file is in its way
abbrev pub is_bad_path : Files → List ℕ → Bool
is_bad_path tree path =
    is_unsafe path || bytes_eq path payload_folder
    || list_any (λ file. clash file.path path) tree.files

-- a text that describes a bag is too long
abbrev pub fault_of_text : List ℕ → List ℕ → Option TreeFault
fault_of_text path bytes =
    if is_read_text path && nat_lt longest_text (length bytes) then Some TextTooLong else None

-- the first fault, in this order, of a file that is to be added
unfoldable pub fault_of_added : Files → List ℕ → List ℕ → Option TreeFault
fault_of_added tree path bytes =
    if is_bad_path tree path then Some BadPath
    else if nat_lt deepest_path (length (parts_of path)) then Some TooDeep
    else if nat_le most_files (length tree.files) then Some TooMany
    else fault_of_text path bytes

-- the tree with one file more
abbrev pub with_file : Files → List ℕ → List ℕ → Files
with_file tree path bytes = record {
  files = tree.files ++ record { path = path; bytes = bytes } ∷ [];
  folder = tree.folder;
}

-- the tree with the folder `data`
abbrev pub with_folder : Files → Files
with_folder tree = record { files = tree.files; folder = true }
