-- What is said of each version, and at last of all.
use Rattle.std.specs.Prelude.{ℕ, List, [], ◌∷◌, ◌++◌, codes, if◌then◌else◌}
use Rattle.std.specs.Fmt.{decimal}
use Rattle.fed_types.specs.declared.bag_id.BagId.{BagId}
use Rattle.fed_types.specs.Bags.{same_bag}
use Rattle.fed_types.specs.Slots.{SlotName}
use Rattle.tokens.specs.Written.{slot_text, bag_text}

-- `known OBJ V HEX`: the site knows the bag that the source knows; or `other OBJ V HEX HEX`: it
-- knows the first, and the source knows the second
unfoldable pub known_line : SlotName → (known wanted : BagId) → List ℕ
known_line slot known wanted =
    if same_bag known wanted
    then codes "known " ++ (slot_text slot ++ (bag_text known ++ 10 ∷ []))
    else codes "other " ++ (slot_text slot ++ (bag_text known ++ (bag_text wanted ++ 10 ∷ [])))

-- `open OBJ V`: the site doesn't know the version
unfoldable pub open_line : SlotName → List ℕ
open_line slot = codes "open " ++ (slot_text slot ++ 10 ∷ [])

-- `K of N`
unfoldable pub count_line : (same count : ℕ) → List ℕ
count_line same count = decimal same ++ (codes " of " ++ (decimal count ++ 10 ∷ []))
