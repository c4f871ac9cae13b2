-- The votes beside the first, as a map in a box keeps them.
use Rattle.std.specs.Prelude.{ℕ, List, [], Option, Some, None, Box, box_value}
use Rattle.std.specs.declared.alloc.Global.{Global}
use Rattle.fed_types.specs.declared.vote.Vote.{Vote}
use Rattle.std.specs.BTreeMap.{BTreeMap}

-- the entries of the map, where there is one
abbrev pub entries_in : Option (Box (BTreeMap Vote (List ℕ)) Global) → List (Vote × List ℕ)
entries_in None = []
entries_in (Some map) = (box_value map).entries
