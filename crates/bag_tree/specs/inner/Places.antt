-- Maps from paths to places of files, by which a tree finds the files that are in a path's way.
use Rattle.std.specs.Prelude.{◌≡◌, ℕ, Bool, false, nat_lt, List, length, Option, Some, None, String}
use Rattle.std.specs.List.{list_any, slice_get}
use Rattle.std.specs.Str.{bytes_eq}
use Rattle.std.specs.BTreeMap.{BTreeMap, get_by_text}
use Rattle.bag_tree.specs.Path.{parts_of}
use Rattle.bag_tree.specs.Tree.{File, deepest_path}

-- the path is this one, or lies below this folder
abbrev pub is_at : List ℕ → List ℕ → Bool
is_at path other = bytes_eq other path

-- the file's path has more parts than a tree takes
abbrev pub is_too_deep : File → Bool
is_too_deep file = nat_lt deepest_path (length (parts_of file.path))

-- a file that is there passes the test
abbrev pub passes : (File → Bool) → Option File → Bool
passes test None = false
passes test (Some file) = test file

-- a place leads to a file that passes the test; a place that no file has leads to none
abbrev pub leads : (File → Bool) → List File → Option ℕ → Bool
leads test files None = false
leads test files (Some place) = passes test (slice_get files place)

-- Where a file has the path, or lies below the folder, the map leads to such a file. What else the
-- map has leads to no such file, so that it does no harm.
abbrev pub FindsEach : {Y : Type 0} → (List ℕ → List ℕ → Bool) → List File → BTreeMap (String Y) ℕ
    → Type 0
FindsEach fits files places = (path : List ℕ)
    → list_any (λ file. fits path file.path) files
    ≡ leads (λ file. fits path file.path) files (get_by_text places path)
