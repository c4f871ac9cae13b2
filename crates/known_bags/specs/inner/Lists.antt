-- What reading a list answers.
use Rattle.std.specs.Prelude.{◌≡◌, ⊤, List, ◌++◌, ℕ, Result, Ok, Err}
use Rattle.known_bags.specs.declared.known_bag.KnownBag.{KnownBag}
use Rattle.known_bags.specs.declared.known_lines.ListFault.{ListFault}
use Rattle.known_bags.specs.declared.known_lines.ListFault.TheVariants.{Line, Memory}
use Rattle.known_bags.specs.Lists.{ListKnows, HasOtherLine}

-- the bags that it knows after the earlier ones, or its first line that is none of a ledger's
abbrev pub IsListOf : List ℕ → (old new : List KnownBag) → Result (Unit {0}) ListFault → Type 0
IsListOf text old new (Ok u) = (bags : List KnownBag) × ListKnows text bags × (new ≡ old ++ bags)
IsListOf text old new (Err (Line number)) = HasOtherLine text number
IsListOf text old new (Err Memory) = ⊤
