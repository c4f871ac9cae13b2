-- How an array of 63 bytes keeps the weights of a federation's members.
use Rattle.std.specs.Prelude.{◌≡◌, ℕ, ◌-◌, List, ◌++◌, length, take, drop, replicate, slice_index}
use Rattle.std.specs.List.{All, sum_by}
use Rattle.fed_types.specs.Sites.{IsMemberCount, IsWeight, sites_to}

-- the bytes of the array
abbrev pub room : ℕ
room = 63

-- weights, and zeros after them
abbrev pub padded : List ℕ → List ℕ
padded weights = weights ++ replicate (room - length weights) 0

-- the bytes are `count` weights and zeros after them
abbrev pub IsPadded : ℕ → List ℕ → Type 0
IsPadded count bytes = (length bytes ≡ room) × (drop count bytes ≡ replicate (room - count) 0)

-- the weights of all sites that these are the weights of, added
abbrev pub total_of : List ℕ → ℕ
total_of weights = sum_by (λ site. slice_index weights (site - 1)) (sites_to (length weights))

-- the bytes are `count` weights, as many as a federation may have members, and zeros after them;
-- and the total is their sum
abbrev pub AreKept : ℕ → ℕ → List ℕ → Type 0
AreKept count total bytes =
    IsMemberCount count × All IsWeight (take count bytes) × IsPadded count bytes
    × (total ≡ total_of (take count bytes))
