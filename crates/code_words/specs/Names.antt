-- How a name is shown to a person.
use Rattle.std.specs.Prelude.{ℕ, ◌==◌, Bool, false, ◌||◌, if◌then◌else◌, List, [], ◌∷◌, ◌++◌}
use Rattle.std.specs.Prelude.{length, codes, encode_utf8}
use Rattle.std.specs.Char.{is_control}
use Rattle.std.specs.Int.{is_in_range}
use Rattle.std.specs.Fmt.{decimal, radix_digits}
use Rattle.std.specs.List.{flat_map, list_any, starts_with}
use Rattle.std.specs.Str.{chars}
use Rattle.code_words.specs.declared.name.Span.{Span}

-- the characters from `first` to `last`
abbrev pub from_to : ℕ → ℕ → Span
from_to first last = record { first = first; last = last }

abbrev pub is_within : ℕ → Span → Bool
is_within character span = is_in_range span.first span.last character

-- blanks other than the space, and what Unicode has shown as nothing (Default_Ignorable_Code_Point)
abbrev pub blanks : List Span
blanks =
    from_to 0xA0 0xA0 ∷ from_to 0xAD 0xAD ∷ from_to 0x34F 0x34F ∷ from_to 0x61C 0x61C
    ∷ from_to 0x115F 0x1160 ∷ from_to 0x17B4 0x17B5 ∷ from_to 0x180B 0x180F
    ∷ from_to 0x2000 0x200F ∷ from_to 0x2028 0x202F ∷ from_to 0x205F 0x206F
    ∷ from_to 0x3000 0x3000 ∷ from_to 0x3164 0x3164 ∷ from_to 0xFE00 0xFE0F
    ∷ from_to 0xFEFF 0xFEFF ∷ from_to 0xFFA0 0xFFA0 ∷ from_to 0xFFF0 0xFFFB
    ∷ from_to 0x1BCA0 0x1BCA3 ∷ from_to 0x1D173 0x1D17A ∷ from_to 0xE0000 0xE0FFF ∷ []

-- a control, or such a blank
unfoldable pub is_invisible : ℕ → Bool
is_invisible character = is_control character || list_any (is_within character) blanks

-- `\u{..}`, with the character's number in hex
abbrev pub number_text : ℕ → List ℕ
number_text character = codes "\\u{" ++ (radix_digits 16 false character ++ codes "}")

-- a character as it is, or by its number
unfoldable pub shown : ℕ → List ℕ
shown character = if is_invisible character then number_text character else encode_utf8 character

-- a name, character by character
unfoldable pub shown_name : List ℕ → List ℕ
shown_name name = flat_map shown (chars name)

-- the same between quotes
abbrev pub quoted_name : List ℕ → List ℕ
quoted_name name = 34 ∷ (shown_name name ++ 34 ∷ [])

-- how a site reads a folder: a path that begins with a slash as it is, another one from a folder
abbrev pub read_from : (path : List ℕ) → List ℕ
read_from path =
    if starts_with (λ a b. a == b) path (codes "/")
    then codes " reads it: "
    else codes " reads it from its own folder, or that of its option --bags: "

-- the folder of a deposit, and the site that reads it
unfoldable pub deposited : (site : ℕ) → (path : List ℕ) → List ℕ
deposited site path =
    shown_name path ++ (codes ", as site " ++ (decimal site ++ read_from path))

-- the path that an argument names; of an empty one that it is empty
abbrev pub path_text : List ℕ → List ℕ
path_text path = if length path == 0 then codes "an empty name" else shown_name path
