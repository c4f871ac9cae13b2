-- Whether the bags that are held are those that are known, and what is reported of that.
use Rattle.std.specs.Prelude.{ℕ, Bool, ◌&&◌, if◌then◌else◌, List, [], ◌∷◌, ◌++◌, codes}
use Rattle.std.specs.List.{flat_map, list_all, list_any}
use Rattle.fed_types.specs.Bags.{same_bag}
use Rattle.fed_types.specs.Slots.{SlotName}
use Rattle.tokens.specs.Escapes.{escaped_text}
use Rattle.tokens.specs.Written.{slot_text}
use Rattle.known_bags.specs.declared.known_bag.KnownBag.{KnownBag}
use Rattle.registered_checks.specs.Held.{Held}

-- ---- whether they are the same

-- it is the bag that is known for this version
abbrev pub is_bag : Held → KnownBag → Bool
is_bag held known = same_bag known.bag held.bag

-- it is the known bag of some version
abbrev pub is_known : List KnownBag → Held → Bool
is_known known held = list_any (λ version. is_bag held version) known

-- the known bag of this version is held
abbrev pub is_held : List Held → KnownBag → Bool
is_held held version = list_any (λ one. is_bag one version) held

-- each that is held is known, and each that is known is held
abbrev pub are_equal : List Held → List KnownBag → Bool
are_equal held known = list_all (is_known known) held && list_all (is_held held) known

-- ---- what is said of it

-- OBJ V
abbrev pub slot_line : SlotName → List ℕ
slot_line slot = slot_text slot ++ 10 ∷ []

-- PATH is OBJ V, if it is the known bag of this version
abbrev pub version_line : Held → KnownBag → List ℕ
version_line held version =
    if is_bag held version
    then escaped_text held.path ++ (codes " is " ++ slot_line version.slot)
    else []

-- PATH is no registered bag
abbrev pub unknown_line : Held → List ℕ
unknown_line held = escaped_text held.path ++ (codes " is no registered bag" ++ 10 ∷ [])

-- a line for each version whose known bag it is, or that it is none's
unfoldable pub held_lines : List KnownBag → Held → List ℕ
held_lines known held =
    if is_known known held then flat_map (version_line held) known else unknown_line held

-- not among these: OBJ V, if the known bag of this version isn't held
abbrev pub missing_line : List Held → KnownBag → List ℕ
missing_line held version =
    if is_held held version then [] else (codes "not among these: " ++ slot_line version.slot)

-- the report on each bag that is held, in order, and then on the versions whose bags aren't
unfoldable pub comparison_text : List Held → List KnownBag → List ℕ
comparison_text held known =
    flat_map (held_lines known) held ++ flat_map (missing_line held) known
