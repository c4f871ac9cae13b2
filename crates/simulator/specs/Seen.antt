-- The bags that are seen in deposits.
use Rattle.std.specs.Prelude.{ℕ, List, [], ◌∷◌, ◌++◌, Result, Ok, Err}
use Rattle.fed_types.specs.declared.bag_id.BagId.{BagId}
use Rattle.bag_check.specs.declared.fault.BagFault.{BagFault}
use Rattle.lines.specs.Named.{SeenBag}

-- the bags that were seen, with that of a checked tree, if it is one
abbrev pub seen_with : (tree : ℕ) → Result BagId BagFault → List SeenBag → List SeenBag
seen_with tree (Ok bag) bags = bags ++ record { bag = bag; tree = tree } ∷ []
seen_with tree (Err fault) bags = bags
