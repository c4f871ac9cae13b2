use Rattle.std.proofs.Common.{◌≡◌, ℕ, ◌<◌, true, List, length}
use Rattle.bag_tree.specs.Path.{is_below}
use Rattle.bag_tree.specs.inner.Places.{FindsEach}
use Rattle.bag_tree.proofs.PlaceLaws.{Leads}
use Rattle.bag_tree.proofs.places.lead_folders.Given as goal

-- the folders that end before here lead to a file
abbrev pub invariant-loop-end : goal.invariant-loop-end
invariant-loop-end l = record {
  each : FindsEach is_below l.files l.by_folder;
  added : (folder : List ℕ) → length folder < l.end → is_below folder l.path ≡ true
      → Leads is_below l.files l.by_folder folder;
}
