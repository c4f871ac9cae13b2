-- Folders below one: the paths that lead out of it, and what a read of each path gives.
use Rattle.std.specs.Prelude.{Bool, ◌||◌, ◌==◌, ℕ, List, [], ◌∷◌, ◌++◌, codes, if◌then◌else◌}
use Rattle.std.specs.Prelude.{Option, Some, None, Result, Err}
use Rattle.std.specs.List.{starts_with, list_any}
use Rattle.std.specs.Option.{option_map}
use Rattle.std.specs.Str.{bytes_eq}
use Rattle.bag_tree.specs.declared.fault.TreeFault.{TreeFault}
use Rattle.bag_tree.specs.declared.fault.TreeFault.TheVariants.{Listing}
use Rattle.bag_tree.specs.Facts.{TreeFacts}
use Rattle.bag_tree.specs.Path.{slash, parts_of}

-- the path begins with a slash
abbrev pub is_absolute : List ℕ → Bool
is_absolute path = starts_with (λ a b. a == b) path (slash ∷ [])

-- `..`
abbrev pub is_parent : List ℕ → Bool
is_parent part = bytes_eq part (codes "..")

-- one of the path's parts between slashes is `..`
abbrev pub goes_up : List ℕ → Bool
goes_up path = list_any is_parent (parts_of path)

-- a path that may lead out of the folder from which it is taken
abbrev pub leads_out : List ℕ → Bool
leads_out path = is_absolute path || goes_up path

-- what a read of each path gives
abbrev pub Reads : Type 0
Reads = List ℕ → Result TreeFacts TreeFault

-- Below a folder, what is read at its path, a slash and the path; where the path leads out there is
-- no folder. Without a folder all is as it was.
abbrev pub reads_below : Option (List ℕ) → Reads → Reads
reads_below None reads path = reads path
reads_below (Some top) reads path =
    if leads_out path then Err Listing else reads (top ++ slash ∷ path)

-- the same, where it is known
abbrev pub known_below : Option (List ℕ) → Option Reads → Option Reads
known_below top known = option_map (reads_below top) known

-- Where each read below a folder fails, where that is known: at the folder that is read, if all of
-- the folders' reads do, since that of a path which leads out does.
abbrev pub place_below : Option (List ℕ) → Option (List ℕ)
place_below None = None
place_below (Some place) = if bytes_eq place (codes ".") then Some place else None
