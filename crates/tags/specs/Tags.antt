-- Texts with their tags behind them.
use Rattle.std.specs.Prelude.{ℕ, ◌-◌, ◌&&◌, nat_le, Bool, if◌then◌else◌}
use Rattle.std.specs.Prelude.{List, ◌++◌, length, take, drop, Option, Some, None, bytes_eq}
use Rattle.tags.specs.Hmac.{tag_len, tag_by}

-- a text with its tag behind it
abbrev pub sealed : List ℕ → List ℕ → List ℕ
sealed block text = text ++ tag_by block text

-- all but the last 32 bytes, and these
abbrev pub text_in : List ℕ → List ℕ
text_in bytes = take (length bytes - tag_len) bytes

abbrev pub tag_in : List ℕ → List ℕ
tag_in bytes = drop (length bytes - tag_len) bytes

-- the last 32 bytes are the tag of what is before them
unfoldable pub is_sealed : List ℕ → List ℕ → Bool
is_sealed block bytes =
    nat_le tag_len (length bytes) && bytes_eq (tag_in bytes) (tag_by block (text_in bytes))

-- the text before its tag, where that is right
unfoldable pub opened : List ℕ → List ℕ → Option (List ℕ)
opened block bytes = if is_sealed block bytes then Some (text_in bytes) else None
