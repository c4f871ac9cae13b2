-- What becomes of printed bytes, which come in pieces.
use Rattle.std.specs.Prelude.{◌⊎◌, ℕ, ◌==◌, if◌then◌else◌, List, [], ◌∷◌, ◌++◌, take, codes}
use Rattle.std.specs.Prelude.{Option, Some, None}
use Rattle.std.specs.Io.KnownBytes.{Appends}
use Rattle.serde_json.specs.Written.{compact_text}
use Rattle.json_lines.specs.Json.{line_data}

-- the line of JSON for a line without its end
unfoldable pub json_of : List ℕ → List ℕ
json_of line = compact_text (line_data line) ++ 10 ∷ []

-- what is written for bytes that come after the beginning of a line: the line of JSON for each line
-- that ends among them
abbrev pub json_text : (begun bytes : List ℕ) → List ℕ
json_text begun [] = []
json_text begun (b ∷ bytes) =
    if b == 10 then json_of begun ++ json_text [] bytes else json_text (begun ++ b ∷ []) bytes

-- the beginning of a line that is left
abbrev pub begun_after : (begun bytes : List ℕ) → List ℕ
begun_after begun [] = begun
begun_after begun (b ∷ bytes) =
    if b == 10 then begun_after [] bytes else begun_after (begun ++ b ∷ []) bytes

-- what is written where memory ran out
abbrev pub memory_line : List ℕ
memory_line = codes "{\"line\":\"memory\"}" ++ 10 ∷ []

-- a prefix of what is written for some of the first bytes, or of the line that says that memory ran
-- out
abbrev pub IsCutShort : (old new : Option (List ℕ)) → (begun bytes : List ℕ) → Type 0
IsCutShort old new begun bytes =
    (k n : ℕ) × (Appends old new (take n (json_text begun (take k bytes)))
    ⊎ Appends old new (take n memory_line))

-- what an output holds, if nothing has become JSON
abbrev pub plain_contents : {X : Type 0} → Option X → Option (List ℕ) → Option (List ℕ)
plain_contents None held = held
plain_contents (Some lines) held = None
