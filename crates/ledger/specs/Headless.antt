-- Bytes that begin with no whole header.
use Rattle.std.specs.Prelude.{◌≡◌, ◌≢◌, ◌⊎◌, ◌≤◌, ◌<◌, ℕ, min, ⊤, List, [], ◌∷◌, length, take, drop}
use Rattle.std.specs.Prelude.{slice_index}
use Rattle.std.specs.List.{Contains}
use Rattle.fed_types.specs.Limits.{most_members}
use Rattle.fed_types.specs.Sites.{IsSiteNumber}
use Rattle.records.specs.Numbers.{old_magic, magic, front_len}
use Rattle.ledger.specs.declared.ending.Ending.{Ending}
use Rattle.ledger.specs.declared.ending.Ending.TheVariants.{Whole, Torn, Damaged}

-- the first four bytes, or all of fewer, are those of this magic
abbrev pub AreFirst : List ℕ → List ℕ → Type 0
AreFirst first bytes = take (min (length bytes) 4) bytes ≡ take (min (length bytes) 4) first

-- how many members there are, and fewer weights, none of them 0; or nothing of that
abbrev pub AreCut : List ℕ → Type 0
AreCut [] = ⊤
AreCut (count ∷ weights) =
    (count ≤ most_members) × (length weights < count) × ¬ Contains weights 0

-- the bytes are a beginning of a header, in either layout: too few to name the owner; or, in the
-- second layout, enough for that, and fewer weights than there are members
abbrev pub BeginsHeader : List ℕ → Type 0
BeginsHeader bytes =
    ((length bytes < front_len) × (AreFirst old_magic bytes ⊎ AreFirst magic bytes))
    ⊎ ((front_len ≤ length bytes) × AreFirst magic bytes × IsSiteNumber (slice_index bytes 12)
    × AreCut (drop front_len bytes))

-- no bytes, the bytes with which a header begins, or others
abbrev pub EndsHeadless : List ℕ → Ending → Type 0
EndsHeadless bytes Whole = bytes ≡ []
EndsHeadless bytes (Torn count) = BeginsHeader bytes × (1 ≤ count) × (count ≡ length bytes)
EndsHeadless bytes (Damaged place) = ¬ BeginsHeader bytes × (bytes ≢ []) × (place ≡ 0)
