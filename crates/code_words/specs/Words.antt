-- How the words of a line are shown to a person. Digits that may be those of a key are hidden.
use Rattle.std.specs.Prelude.{ℕ, zero, suc, ◌-◌, ◌/◌, ◌%◌, nat_le, nat_lt, Bool, false}
use Rattle.std.specs.Prelude.{if◌then◌else◌}
use Rattle.std.specs.Prelude.{List, [], ◌∷◌, ◌++◌, length, take, codes, Option, None, is_some}
use Rattle.std.specs.Char.{is_ascii_graphic, is_ascii_hexdigit, digit_char}
use Rattle.std.specs.List.{flat_map, list_any, onto_first, prefix_len}
use Rattle.std.specs.Option.{option_map_or}
use Rattle.std.specs.Str.{is_utf8}
use Rattle.code_words.specs.FileKinds.{begins, is_utf16}
use Rattle.code_words.specs.Keys.{hidden_digits, key_name}
use Rattle.code_words.specs.Names.{shown_name}

-- ---- bytes

-- two digits of hex
abbrev pub hex_text : ℕ → List ℕ
hex_text byte = digit_char (byte / 16) ∷ digit_char (byte % 16) ∷ []

-- a byte of what is no text: a visible character of ASCII as it is, and any other in hex
abbrev pub byte_text : ℕ → List ℕ
byte_text byte = if is_ascii_graphic byte then byte ∷ [] else codes "\\x" ++ hex_text byte

-- bytes: a text as a name is shown, and what is no text byte by byte
unfoldable pub bytes_text : List ℕ → List ℕ
bytes_text bytes = if is_utf8 bytes then shown_name bytes else flat_map byte_text bytes

-- so many of them at most, and dots where there are more
abbrev pub front_text : (room : ℕ) → List ℕ → List ℕ
front_text room bytes =
    if nat_lt room (length bytes) then bytes_text (take room bytes) ++ codes ".."
    else bytes_text bytes

-- ---- words

-- The parts of a word between digits of hex of which 64 or more stand in a row; its first `left`
-- bytes are passed over.
unfoldable pub parts_after : (left : ℕ) → List ℕ → List (List ℕ)
parts_after left [] = [] ∷ []
parts_after (suc left) (byte ∷ bytes) = parts_after left bytes
parts_after zero (byte ∷ bytes) =
    if nat_le 64 (prefix_len is_ascii_hexdigit (byte ∷ bytes))
    then [] ∷ parts_after (prefix_len is_ascii_hexdigit bytes) bytes
    else onto_first byte (parts_after zero bytes)

-- parts with dots between them, of so many bytes at most
unfoldable pub parts_text : (room : ℕ) → List (List ℕ) → List ℕ
parts_text room [] = []
parts_text room (part ∷ []) = front_text room part
parts_text room (part ∷ next ∷ parts) =
    if nat_lt room (length part) then front_text room part
    else bytes_text part ++ (codes ".." ++ parts_text (room - length part) (next ∷ parts))

-- a word: of a long one its first 100 bytes, and dots in place of digits that may be a key's
abbrev pub word_text : List ℕ → List ℕ
word_text word = parts_text 100 (parts_after 0 word)

-- ---- lines

-- a word after another one
abbrev pub later_word : List ℕ → List ℕ
later_word word = 32 ∷ word_text word

-- words, with a space between two
abbrev pub words_text : List (List ℕ) → List ℕ
words_text [] = []
words_text (first ∷ words) = word_text first ++ flat_map later_word words

-- of a line of a key file its name alone
abbrev pub key_line_text : (name : List ℕ) → List ℕ
key_line_text name = 34 ∷ (word_text name ++ codes " ..\"; this is a key file")

-- they are those of a cell
abbrev pub is_cell : List (List ℕ) → Bool
is_cell [] = false
is_cell (first ∷ words) = begins first (codes "BPJ")

-- the words of any other line between quotes, but neither a cell nor UTF-16
abbrev pub other_text : List (List ℕ) → List ℕ
other_text words =
    if is_cell words then codes "\"BPJ ..\"; this is a cell"
    else if list_any is_utf16 words then codes "\"..\"; it is UTF-16: save it as UTF-8"
    else 34 ∷ (words_text words ++ 34 ∷ [])

-- the words of a line as they are shown
unfoldable pub found_text : List (List ℕ) → List ℕ
found_text words = option_map_or key_line_text (key_name words) (other_text words)

-- ---- the name of a folder that stood as a line in a list

-- the name that it begins with, if it is the line of a key file with digits that may be a key's
abbrev pub key_line_name : List ℕ → Option (List ℕ)
key_line_name line = if is_some (hidden_digits line) then key_name (line ∷ []) else None

-- of a line of a key file its name alone, of UTF-16 nothing, and of any other all
unfoldable pub line_name_text : List ℕ → List ℕ
line_name_text line =
    if is_utf16 line then codes ".."
    else option_map_or (λ name. bytes_text name ++ codes " ..") (key_line_name line)
    (shown_name line)
