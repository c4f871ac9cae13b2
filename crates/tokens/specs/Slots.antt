-- A version of an object in two words, OBJ V.
use Rattle.std.specs.Prelude.{ℕ, List, length, nat_le, ◌&&◌, if◌then◌else◌, Option, Some, None}
use Rattle.fed_types.specs.Limits.{longest_object, greatest_version}
use Rattle.fed_types.specs.Slots.{SlotName}
use Rattle.tokens.specs.Words.{◌>>=◌, number_in, text_of}

-- OBJ: a text that isn't empty, and not too long
unfoldable pub object_of : List ℕ → Option (List ℕ)
object_of word = do
  name ← text_of word
  if nat_le 1 (length name) && nat_le (length name) longest_object then Some name else None

-- OBJ V
unfoldable pub slot_of : List ℕ → List ℕ → Option SlotName
slot_of object version = do
  o ← object_of object
  v ← number_in 1 greatest_version version
  Some (record { object = o; version = v })
