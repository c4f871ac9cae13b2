-- The trees of a schedule.
use Rattle.std.specs.Prelude.{ℕ, ◌==◌, if◌then◌else◌, List, [], ◌∷◌, Option, Some, None}
use Rattle.bag_tree.specs.Tree.{Files}

-- a tree that was declared under a number
pub record NumberedTree : Type 0 where
  pub number : ℕ
  pub files : Files

-- the tree of this number, where it was declared
unfoldable pub tree_at : ℕ → List NumberedTree → Option Files
tree_at number [] = None
tree_at number (tree ∷ trees) =
    if tree.number == number then Some tree.files else tree_at number trees

-- the trees with these files under this number
unfoldable pub put_tree : ℕ → Files → List NumberedTree → List NumberedTree
put_tree number files [] = []
put_tree number files (tree ∷ trees) =
    if tree.number == number
    then record { number = number; files = files } ∷ trees
    else tree ∷ put_tree number files trees
