use Rattle.std.proofs.Common.{◌≡◌, ℕ, ◌<◌, true, false, List, length}
use Rattle.std.specs.List.{list_any}
use Rattle.bag_tree.specs.Path.{is_below}
use Rattle.bag_tree.specs.inner.Places.{is_at}
use Rattle.bag_tree.proofs.places.lies_below_file.Given as goal

-- no file has the path of a folder that ends before here
abbrev pub invariant-loop-end : goal.invariant-loop-end
invariant-loop-end l = (folder : List ℕ) → length folder < l.end
    → is_below folder l.path ≡ true
    → list_any (λ file. is_at folder file.path) l.files ≡ false
