-- The place of each tree in the order of the declarations.
use Rattle.std.specs.Prelude.{◌≡◌, ◌==◌, if◌then◌else◌, nat_eq, ℕ, suc, List, [], ◌∷◌}
use Rattle.std.specs.Prelude.{Option, Some, None}
use Rattle.std.specs.Map.{lookup}
use Rattle.std.specs.Option.{option_map}
use Rattle.world_law.specs.Trees.{NumberedTree}

-- how many trees were declared before the one of this number, if it was declared
unfoldable pub place_of : (number : ℕ) → List NumberedTree → Option ℕ
place_of number [] = None
place_of number (tree ∷ trees) =
    if tree.number == number then Some 0 else option_map (λ place. suc place)
    (place_of number trees)

-- the entries are the numbers of these trees, each with its place
abbrev pub ArePlaces : List (ℕ × ℕ) → List NumberedTree → Type 0
ArePlaces places trees = (number : ℕ) → lookup (nat_eq number) places ≡ place_of number trees
