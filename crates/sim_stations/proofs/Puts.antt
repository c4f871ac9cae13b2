-- Files that are put under the number of a tree that was declared.
use Rattle.std.proofs.Common.{◌≡◌, ℕ, Bool, true, false, cond, List, [], ◌∷◌, eqb, Option}
use Rattle.std.proofs.Common.{Some, None, refl}
use Rattle.std.proofs.lemmas.Bool.{eqb-true}
use Rattle.bag_tree.specs.declared.fault.TreeFault.{TreeFault}
use Rattle.bag_tree.specs.Tree.{Files, fault_of_added}
use Rattle.world_law.specs.Trees.{NumberedTree, tree_at, put_tree}
use Rattle.sim_stations.specs.Changes.{trees_with_file}
use Rattle.sim_stations.specs.Changes.{trees_with_file_unless, files_after, files_unless}

-- what is put back changes nothing
pub put_back : (number : ℕ) (files : Files) (trees : List NumberedTree)
    → tree_at number trees ≡ Some files → put_tree number files trees ≡ trees
unfolding tree_at put_tree
put_back number files [] is = refl
put_back number files (t ∷ trees) is =
    go (eqb t.number number) refl (put_back number files trees) is
  where
    go : (b : Bool) → eqb t.number number ≡ b
        → (tree_at number trees ≡ Some files → put_tree number files trees ≡ trees)
        → cond b (Some t.files) (tree_at number trees) ≡ Some files
        → cond b (record { number = number; files = files } ∷ trees)
        (t ∷ put_tree number files trees) ≡ t ∷ trees
    go true same later is =
        let files_are : t.files ≡ files = cc is in
        rw (← eqb-true t.number number same, ← files_are)
    go false other later is = rw (later is)

-- the tree with a file more, where it can have it
pub filed : (number : ℕ) (path bytes : List ℕ) (files : Files) (trees : List NumberedTree)
    → tree_at number trees ≡ Some files
    → put_tree number (files_after path bytes files) trees
    ≡ trees_with_file number path bytes (tree_at number trees) trees
filed number path bytes files trees is = rw is (go (fault_of_added files path bytes))
  where
    go : (fault : Option TreeFault)
        → put_tree number (files_unless path bytes files fault) trees
        ≡ trees_with_file_unless number path bytes files fault trees
    go None = refl
    go (Some fault) = put_back number files trees is
