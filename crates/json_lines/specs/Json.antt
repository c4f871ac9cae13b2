-- What a line says as JSON: an object with a member for each word that a form's part fills in, and
-- the member `line`, which says what kind of line it is.
use Rattle.std.specs.Prelude.{◌≡◌, ℕ, ◌-◌, ◌^◌, ◌==◌, if◌then◌else◌, List, [], ◌∷◌, ◌++◌, map}
use Rattle.std.specs.Prelude.{codes}
use Rattle.std.specs.Prelude.{Option, Some, None}
use Rattle.std.specs.List.{slice_split}
use Rattle.std.specs.Str.{is_utf8}
use Rattle.serde_json.specs.Data.{Data, null, number as number_value, unsigned, string, array}
use Rattle.serde_json.specs.Data.{object, Members, no_members, put}
use Rattle.serde_json.specs.View.{items_of}
use Rattle.serde_json.specs.Written.{compact_text}
use Rattle.serde_json.specs.Read.{read}
use Rattle.tokens.specs.Words.{number_in, text_of}
use Rattle.json_lines.specs.Forms.{FormPart, word, name, number, text, numbers, LineForm}
use Rattle.json_lines.specs.Forms.{after, form_of}

-- ---- the value of a word

-- the bytes as they are; no JSON text is of bytes that aren't UTF-8
abbrev pub text_data : List ℕ → Data
text_data bytes = if is_utf8 bytes then string bytes else null

-- a name with its escapes undone
abbrev pub name_data : Option (List ℕ) → Data
name_data None = null
name_data (Some bytes) = string bytes

-- decimal digits, of a number of 64 bits
abbrev pub number_data : Option ℕ → Data
number_data None = null
number_data (Some n) = number_value (unsigned n)

abbrev pub number_in_word : List ℕ → Data
number_in_word digits = number_data (number_in 0 (2 ^ 64 - 1) digits)

-- ---- the value of a line

abbrev pub first_of : List (List ℕ) → List ℕ
first_of [] = []
first_of (first ∷ words) = first

-- the members, with that of a part, which the first of the words fills in
abbrev pub with_part : FormPart → List (List ℕ) → Members → Members
with_part (word it) words members = members
with_part (name key) words members = put key (name_data (text_of (first_of words))) members
with_part (number key) words members = put key (number_in_word (first_of words)) members
with_part (text key) words members = put key (text_data (first_of words)) members
with_part (numbers key) words members =
    put key (array (items_of (map number_in_word words))) members

-- the members, with those of all parts
abbrev pub with_parts : List FormPart → List (List ℕ) → Members → Members
with_parts [] words members = members
with_parts (part ∷ parts) words members =
    with_parts parts (after part words) (with_part part words members)

-- the value of a line of this form, or else all of the line as the member `line`
abbrev pub formed_data : Option LineForm → List (List ℕ) → List ℕ → Data
formed_data None words line = object (put (codes "line") (text_data line) no_members)
formed_data (Some form) words line =
    object (put (codes "line") (string form.kind) (with_parts form.parts words no_members))

-- what each space separates from what is after it
abbrev pub words_in : List ℕ → List (List ℕ)
words_in line = slice_split (λ b. b == 32) line

unfoldable pub line_data : List ℕ → Data
line_data line = formed_data (form_of (words_in line)) (words_in line) line

-- the bytes are a line, and a reader of JSON has this value of it
abbrev pub IsLineOf : Data → List ℕ → Type 0
IsLineOf value bytes =
    (bytes ≡ compact_text value ++ 10 ∷ []) × (read (compact_text value) ≡ Some value)
