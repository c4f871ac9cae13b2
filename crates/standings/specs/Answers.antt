-- What a datagram says of how a site stands.
use Rattle.std.specs.Prelude.{ℕ, ◌+◌, List, [], ◌∷◌, Option, Some, None, if◌then◌else◌}
use Rattle.std.specs.Int.{w64, from_be_bytes}
use Rattle.std.specs.List.{slice_index}
use Rattle.std.specs.Str.{bytes_eq}
use Rattle.udp_site.specs.declared.status.Standing.{Standing}
use Rattle.udp_site.specs.Status.{status_answer}

-- the number in the eight bytes from this place on; one that isn't there counts as 0
unfoldable pub number_at : (place : ℕ) → List ℕ → ℕ
number_at place bytes =
    let at = slice_index bytes in
    from_be_bytes w64 (at place ∷ at (place + 1) ∷ at (place + 2) ∷ at (place + 3) ∷ at (place + 4)
    ∷ at (place + 5) ∷ at (place + 6) ∷ at (place + 7) ∷ [])

-- the four numbers that an answer has after its front of 13 bytes
abbrev pub standing_at : List ℕ → Standing
standing_at bytes = record {
  counts = record {
    records = number_at 13 bytes;
    known = number_at 21 bytes;
    pending = number_at 29 bytes;
  };
  alone = number_at 37 bytes;
}

-- A datagram is the answer of a site of the federation if it is, byte for byte, the one that says
-- these numbers.
unfoldable pub standing_in : (federation site : ℕ) → List ℕ → Option Standing
standing_in federation site bytes =
    if bytes_eq bytes (status_answer federation site (standing_at bytes))
    then Some (standing_at bytes)
    else None
