-- Records by their sizes alone.
use Rattle.std.specs.Prelude.{◌≡◌, ◌⊎◌, ◌≤◌, ◌<◌, ◌+◌, ℕ, List, length, Option, Some, None}
use Rattle.records.specs.Numbers.{longest_content}
use Rattle.records.specs.Journals.{length_field}

-- no record comes next: there are fewer bytes than one has, or a length that none has
abbrev pub Stops : List ℕ → Type 0
Stops bytes =
    (length bytes < 2) ⊎ (longest_content + 8 < length_field bytes)
    ⊎ (length bytes < 2 + length_field bytes)

-- this many bytes come next
abbrev pub IsSizeAt : List ℕ → Option ℕ → Type 0
IsSizeAt bytes None = Stops bytes
IsSizeAt bytes (Some size) =
    (2 ≤ length bytes) × (length_field bytes ≤ longest_content + 8)
    × (size ≡ 2 + length_field bytes) × (size ≤ length bytes)
