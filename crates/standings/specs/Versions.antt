-- How many versions files know.
use Rattle.std.specs.Prelude.{ℕ, List, [], length}
use Rattle.std.specs.List.{fold}
use Rattle.known_bags.specs.declared.known_bag.KnownBag.{KnownBag}
use Rattle.slot_table.specs.Listings.{listed}

-- a version that several files know counts once
unfoldable pub versions_in : List KnownBag → ℕ
versions_in bags = length (fold (λ slots v. listed slots v.slot) [] bags)
