-- Lines of a key file, and digits that may be a key's.
use Rattle.std.specs.Prelude.{ℕ, ◌+◌, ◌==◌, nat_le, Bool, not, ◌&&◌, ◌||◌, if◌then◌else◌}
use Rattle.std.specs.Prelude.{List, [], ◌∷◌, length, filter, codes}
use Rattle.std.specs.Prelude.{Option, None, Some, is_some, option_map, option_and_then, slice_get}
use Rattle.std.specs.Char.{is_ascii_alphanumeric, is_ascii_hexdigit}
use Rattle.std.specs.List.{prefix_len, slice_split, flat_map, list_any}
use Rattle.std.specs.Str.{str_eq_ignore_ascii_case}

-- so many places further
abbrev pub further : ℕ → (ℕ × ℕ) → ℕ × ℕ
further count at = (count + at.0, count + at.1)

-- where the first digits of hex begin and end of which 64 or more stand in a row, if there are such
unfoldable pub hidden_digits : List ℕ → Option (ℕ × ℕ)
hidden_digits [] = None
hidden_digits (byte ∷ bytes) =
    if nat_le 64 (prefix_len is_ascii_hexdigit (byte ∷ bytes))
    then Some (0, prefix_len is_ascii_hexdigit (byte ∷ bytes))
    else option_map (further 1) (hidden_digits bytes)

-- what stands in words between bytes that are neither letters nor digits
abbrev pub pieces_of : List (List ℕ) → List (List ℕ)
pieces_of words =
    filter (λ piece. not (length piece == 0))
    (flat_map (slice_split (λ byte. not (is_ascii_alphanumeric byte))) words)

-- a line of a key file begins so, in either letter case
abbrev pub is_key_name : List ℕ → Bool
is_key_name name =
    str_eq_ignore_ascii_case name (codes "sites")
    || str_eq_ignore_ascii_case name (codes "clients")

-- the name, if it is one of those, and something stands after it
abbrev pub name_before : (pieces : List (List ℕ)) → (name : List ℕ) → Option (List ℕ)
name_before pieces name =
    if is_key_name name && is_some (slice_get pieces 1) then Some name else None

-- the name that a line of a key file begins with, if these seem to be the words of such a line
unfoldable pub key_name : List (List ℕ) → Option (List ℕ)
key_name words =
    option_and_then (name_before (pieces_of words)) (slice_get (pieces_of words) 0)

-- one line of a text seems to be that of a key file
abbrev pub has_key_line : List ℕ → Bool
has_key_line text =
    list_any (λ line. is_some (key_name (line ∷ []))) (slice_split (λ byte. byte == 10) text)
