-- The lines of a key file, each by its words.
use Rattle.std.specs.Prelude.{ℕ, Bool, true, false, ◌&&◌, not, if◌then◌else◌}
use Rattle.std.specs.Prelude.{List, [], ◌∷◌, codes, Option, Some, None}
use Rattle.std.specs.Char.{is_ascii_uppercase}
use Rattle.std.specs.List.{list_any}
use Rattle.std.specs.Result.{result_ok}
use Rattle.std.specs.Str.{bytes_eq}
use Rattle.hex.specs.Hex.{decode_sized}
use Rattle.tokens.specs.Words.{◌>>=◌}
use Rattle.key_file.specs.declared.key_line.KeyKind.{KeyKind}
use Rattle.key_file.specs.declared.key_line.KeyKind.TheVariants.{Sites, Clients}
use Rattle.key_file.specs.declared.key_line.KeyLine.{KeyLine}

-- the bytes of a key: a block of SHA-256
abbrev pub KEY_BYTES : ℕ
KEY_BYTES = 64

-- HEX, the digits of a key, with letters of lower case
unfoldable pub key_in : List ℕ → Option (List ℕ)
key_in digits =
    if list_any is_ascii_uppercase digits then None
    else result_ok (decode_sized digits KEY_BYTES)

-- `sites` or `clients`
unfoldable pub kind_in : List ℕ → Option KeyKind
kind_in name =
    if bytes_eq name (codes "sites") then Some Sites
    else (if bytes_eq name (codes "clients") then Some Clients else None)

-- this key of this kind
abbrev pub key_line : KeyKind → List ℕ → KeyLine
key_line kind key = record { kind = kind; key = key }

-- what the words `sites HEX` or `clients HEX` say
unfoldable pub line_in : List (List ℕ) → Option KeyLine
line_in (name ∷ digits ∷ []) = do
  kind ← kind_in name
  key ← key_in digits
  Some (key_line kind key)
line_in words = None
