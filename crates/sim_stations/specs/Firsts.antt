-- The first deposit of each bag.
use Rattle.std.specs.Prelude.{◌≡◌, ℕ, List, [], ◌∷◌, Option, Some, None, if◌then◌else◌}
use Rattle.std.specs.Map.{lookup}
use Rattle.fed_types.specs.declared.bag_id.BagId.{BagId}
use Rattle.fed_types.specs.Bags.{same_bag}
use Rattle.lines.specs.Named.{SeenBag}

-- bags, each with the tree of its first deposit
abbrev pub Firsts : Type 0
Firsts = List (BagId × ℕ)

-- the tree in which a bag was seen first, if it was seen
unfoldable pub first_of : BagId → List SeenBag → Option ℕ
first_of bag [] = None
first_of bag (seen ∷ others) = if same_bag seen.bag bag then Some seen.tree else first_of bag others

-- the firsts of these bags, in the order of their deposits
abbrev pub Represents : Firsts → List SeenBag → Type 0
Represents firsts seen = (bag : BagId) → lookup (same_bag bag) firsts ≡ first_of bag seen

-- whatever bags the old firsts represent, the new ones represent
abbrev pub RepresentsSame : (old new : Firsts) → Type 0
RepresentsSame old new = (seen : List SeenBag) → Represents old seen → Represents new seen
