-- Which code a printed line has, by its words.
use Rattle.std.specs.Prelude.{ℕ, ◌+◌, ◌*◌, ◌-◌, ◌==◌, nat_lt, Bool, not, ◌&&◌, ◌||◌}
use Rattle.std.specs.Prelude.{if◌then◌else◌, List, [], ◌∷◌, length, take, drop, codes}
use Rattle.std.specs.Prelude.{Option, None, Some}
use Rattle.std.specs.Int.{is_in_range}
use Rattle.std.specs.List.{slice_split, starts_with, ends_with, list_any, find}
use Rattle.std.specs.Str.{bytes_eq}
use Rattle.code_words.specs.Codes.{invalid_codes, unread_codes, open_codes, stopped_codes}
use Rattle.code_words.specs.Codes.{refused_codes, skipped_codes, other_codes}
use Rattle.code_words.specs.Rows.{row}

-- ---- words

-- the number of one or two digits, or 0
unfoldable pub number_in : List ℕ → ℕ
number_in (digit ∷ []) = if is_in_range 48 57 digit then digit - 48 else 0
number_in (ten ∷ digit ∷ []) =
    if is_in_range 48 57 ten && is_in_range 48 57 digit then 10 * (ten - 48) + (digit - 48) else 0
number_in word = 0

-- ---- codes with something filled in

-- the text ends so
abbrev pub ends : List ℕ → List ℕ → Bool
ends text end = ends_with (λ a b. a == b) text end

-- what stands before the last word of a code, if something else is printed in its place
unfoldable pub stem_of : List ℕ → Option (List ℕ)
stem_of code =
    if ends code (codes " N") || ends code (codes " S") then Some (take (length code - 1) code)
    else if ends code (codes " BYTES") then Some (take (length code - 5) code)
    else if ends code (codes " OFFSET") then Some (take (length code - 6) code)
    else None

-- the line is this, and one word after it
unfoldable pub is_one_word_after : (stem line : List ℕ) → Bool
is_one_word_after stem line =
    starts_with (λ a b. a == b) line stem
    && not (list_any (λ byte. byte == 32) (drop (length stem) line))

-- the same, where there is such a stem, or else the line is the code
abbrev pub has_code_of : Option (List ℕ) → (line code : List ℕ) → Bool
has_code_of (Some stem) line code = is_one_word_after stem line
has_code_of None line code = bytes_eq line code

-- the line has this code
abbrev pub has_code : (line code : List ℕ) → Bool
has_code line code = has_code_of (stem_of code) line code

-- ---- lines

-- a command of a schedule couldn't apply for this reason
abbrev pub skipped : List ℕ → Option (List ℕ)
skipped reason = find (λ code. ends code reason) skipped_codes

-- a line with a code of another kind
abbrev pub other : List ℕ → Option (List ℕ)
other line = find (has_code line) other_codes

-- what a site refused: a bag that isn't valid, 40 above the number of `invalid`; a folder that
-- can't be read, 20 above the number of `unread`; and else by a number from 10 on
unfoldable pub refused : ℕ → Option (List ℕ)
refused number =
    if nat_lt 40 number then row invalid_codes (number - 40)
    else if nat_lt 20 number then row unread_codes (number - 20)
    else row refused_codes (number - 9)

-- a line of two words
unfoldable pub of_two : (line name last : List ℕ) → Option (List ℕ)
of_two line name last =
    if bytes_eq name (codes "invalid") then row invalid_codes (number_in last)
    else if bytes_eq name (codes "unread") then row unread_codes (number_in last)
    else if bytes_eq name (codes "open") then row open_codes (number_in last)
    else if bytes_eq name (codes "stopped") then row stopped_codes (number_in last)
    else other line

-- a line of three words, of which the second is the line of a schedule, or a site
unfoldable pub of_three : (line name last : List ℕ) → Option (List ℕ)
of_three line name last =
    if bytes_eq name (codes "skip") then skipped last
    else if bytes_eq name (codes "refused") then refused (number_in last)
    else other line

-- a line of four words, as `refused S 10 N` of a bag that isn't valid
unfoldable pub of_four : (line name third last : List ℕ) → Option (List ℕ)
of_four line name third last =
    if bytes_eq name (codes "refused") && bytes_eq third (codes "10")
    then row invalid_codes (number_in last)
    else other line

-- a line of these words
unfoldable pub of_words : (line : List ℕ) → (words : List (List ℕ)) → Option (List ℕ)
of_words line (name ∷ last ∷ []) = of_two line name last
of_words line (name ∷ second ∷ last ∷ []) = of_three line name last
of_words line (name ∷ second ∷ third ∷ last ∷ []) = of_four line name third last
of_words line words = other line

-- the words of a line, between single blanks
abbrev pub words_of : List ℕ → List (List ℕ)
words_of line = slice_split (λ byte. byte == 32) line

-- the code of a line, if it has one
abbrev pub code_of_line : List ℕ → Option (List ℕ)
code_of_line line = of_words line (words_of line)
