-- What a federation represents, after one of its trees has changed.
use Rattle.std.proofs.Common.{ℕ, ◌≡◌, true, false, List, Option, Some, None}
use Rattle.std.specs.Prelude.{is_some}
use Rattle.bag_tree.specs.declared.fault.TreeFault.{TreeFault}
use Rattle.bag_tree.specs.Tree.{Files, fault_of_added}
use Rattle.lines.specs.declared.line.Reason.TheVariants as reasons
use Rattle.world_law.specs.Trees.{NumberedTree}
use Rattle.world_law.specs.Worlds.{World, with_trees, skips, on_folder, on_file, on_added}
use Rattle.sim_stations.specs.declared.trees.Added.{Added}
use Rattle.sim_stations.specs.declared.trees.Added.TheVariants.{Done, NoTree, BadFile}
use Rattle.sim_stations.specs.Changes.{trees_with_folder, trees_with_file, trees_with_file_unless}
use Rattle.sim_stations.specs.Changes.{outcome_of_adding, outcome_unless}
use Rattle.simulator.specs.declared.federation.Federation.{Federation}
use Rattle.simulator.specs.Federations.{Represents}

-- the same but for the trees
pub trees_stand : {f g : Federation} {w : World} {trees : List NumberedTree}
    → g ≡ record f { trees = g.trees } → g.trees ≡ trees → Represents f w
    → Represents g (with_trees w trees)
trees_stand same new is = rw same (record {
  members = is.members;
  stations = is.stations;
  sent = is.sent;
  named = is.named;
  trees = new;
  seen = is.seen;
  lines = is.lines;
  sound = is.sound;
})

-- ---- a folder, where the tree was declared, and where it wasn't

pub folder_added : {f g : Federation} {w : World} (number tree : ℕ) (o : Option Files)
    → g ≡ record f { trees = g.trees } → g.trees ≡ trees_with_folder tree o w.trees
    → Represents f w → true ≡ is_some o → Represents g (on_folder w number tree o)
unfolding on_folder
folder_added number tree None same new is some = absurd (cc some)
folder_added number tree (Some files) same new is some = trees_stand same new is

pub no_folder : {f g h : Federation} {w : World} (number tree : ℕ) (o : Option Files)
    → g ≡ record f { trees = g.trees } → g.trees ≡ trees_with_folder tree o w.trees
    → Represents f w → false ≡ is_some o
    → (Represents g w → Represents h (skips w number reasons.Tree))
    → Represents h (on_folder w number tree o)
unfolding on_folder
no_folder number tree None same new is none skipped = skipped (trees_stand same new is)
no_folder number tree (Some files) same new is none skipped = absurd (cc none)

-- ---- a file

-- what leads to the end, by what became of the file
abbrev pub Ends : (g h : Federation) → World → (number : ℕ) → Added → Type 0
Ends g h w number Done = h ≡ g
Ends g h w number NoTree = Represents g w → Represents h (skips w number reasons.Tree)
Ends g h w number BadFile = Represents g w → Represents h (skips w number reasons.Path)

pub file_ends : {f g h : Federation} {w : World} (number tree : ℕ) (path bytes : List ℕ)
    (o : Option Files)
    → g ≡ record f { trees = g.trees } → g.trees ≡ trees_with_file tree path bytes o w.trees
    → Represents f w → (a : Added) → a ≡ outcome_of_adding path bytes o → Ends g h w number a
    → Represents h (on_file w number tree path bytes o)
unfolding on_file on_added
file_ends number tree path bytes None same new is a answer ends =
    (rw answer at ends) (trees_stand same new is)
file_ends {f} {g} {h} {w} number tree path bytes (Some files) same new is a answer ends =
    go (fault_of_added files path bytes) answer new
  where
    go : (fault : Option TreeFault) → a ≡ outcome_unless fault
        → g.trees ≡ trees_with_file_unless tree path bytes files fault w.trees
        → Represents h (on_added w number tree files path bytes fault)
    go None answer new = rw (rw answer at ends) (trees_stand same new is)
    go (Some fault) answer new = (rw answer at ends) (trees_stand same new is)
