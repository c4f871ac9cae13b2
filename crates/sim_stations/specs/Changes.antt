-- Declared trees, and what becomes of them where one changes.
use Rattle.std.specs.Prelude.{ℕ, List, Option, Some, None}
use Rattle.bag_tree.specs.declared.fault.TreeFault.{TreeFault}
use Rattle.bag_tree.specs.Tree.{Files, with_folder, with_file, fault_of_added}
use Rattle.world_law.specs.Trees.{NumberedTree, put_tree}
use Rattle.sim_stations.specs.declared.trees.Added.{Added}
use Rattle.sim_stations.specs.declared.trees.Added.TheVariants.{Done, NoTree, BadFile}

-- the trees after the payload folder of one was made, if it was declared
abbrev pub trees_with_folder : ℕ → Option Files → List NumberedTree → List NumberedTree
trees_with_folder number None trees = trees
trees_with_folder number (Some files) trees = put_tree number (with_folder files) trees

-- what is answered where a file has this fault, or none
abbrev pub outcome_unless : Option TreeFault → Added
outcome_unless None = Done
outcome_unless (Some fault) = BadFile

-- what is answered where a file is to be added to a tree, if it was declared
abbrev pub outcome_of_adding : (path bytes : List ℕ) → Option Files → Added
outcome_of_adding path bytes None = NoTree
outcome_of_adding path bytes (Some files) = outcome_unless (fault_of_added files path bytes)

-- the files of a tree after one more was to be added, which has this fault or none
abbrev pub files_unless : (path bytes : List ℕ) → Files → Option TreeFault → Files
files_unless path bytes files None = with_file files path bytes
files_unless path bytes files (Some fault) = files

abbrev pub files_after : (path bytes : List ℕ) → Files → Files
files_after path bytes files = files_unless path bytes files (fault_of_added files path bytes)

-- the trees after a file was to be added to one of them: they change if it has no fault
abbrev pub trees_with_file_unless :
    ℕ → (path bytes : List ℕ) → Files → Option TreeFault → List NumberedTree → List NumberedTree
trees_with_file_unless number path bytes files None trees =
    put_tree number (with_file files path bytes) trees
trees_with_file_unless number path bytes files (Some fault) trees = trees

abbrev pub trees_with_file :
    ℕ → (path bytes : List ℕ) → Option Files → List NumberedTree → List NumberedTree
trees_with_file number path bytes None trees = trees
trees_with_file number path bytes (Some files) trees =
    trees_with_file_unless number path bytes files (fault_of_added files path bytes) trees
