-- Trees by the names of their folders, and what a read of a folder gives.
use Rattle.std.specs.Prelude.{◌≢◌, ℕ, List, Option, Some, None, Result, Ok, Err}
use Rattle.std.specs.List.{find}
use Rattle.std.specs.Str.{bytes_eq}
use Rattle.bag_tree.specs.declared.fault.TreeFault.{TreeFault}
use Rattle.bag_tree.specs.declared.fault.TreeFault.TheVariants.{Listing, BadPath}
use Rattle.bag_tree.specs.Tree.{Files}
use Rattle.bag_tree.specs.Facts.{TreeFacts, facts_of_tree}

-- a tree, and the path of its folder
pub record NamedTree : Type 0 where
  pub path : List ℕ
  pub files : Files

-- the facts of the tree that was found; a folder that isn't there can't be listed
abbrev pub read_of_found : Option NamedTree → Result TreeFacts TreeFault
read_of_found None = Err Listing
read_of_found (Some found) = Ok (facts_of_tree found.files)

-- what a read of the folder of this path gives: if two trees have one path, the first of them
abbrev pub read_of : List NamedTree → List ℕ → Result TreeFacts TreeFault
read_of trees path = read_of_found (find (λ tree. bytes_eq tree.path path) trees)

-- the faults of reading a folder: all but that of a path which no further file can have
abbrev pub IsWalkFault : TreeFault → Type 0
IsWalkFault fault = fault ≢ BadPath
