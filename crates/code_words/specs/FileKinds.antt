-- The kinds of files that may be given in place of others.
use Rattle.std.specs.Prelude.{ℕ, ◌%◌, ◌==◌, nat_le, Bool, true, false, not, ◌&&◌, ◌||◌}
use Rattle.std.specs.Prelude.{if◌then◌else◌, List, [], ◌∷◌, length, filter, codes, slice_get}
use Rattle.std.specs.Prelude.{Option, Some, None, is_some, unwrap_or, option_and_then}
use Rattle.std.specs.Char.{is_ascii_whitespace}
use Rattle.std.specs.List.{list_any, list_all, find, starts_with, enumerate_from, slice_split}
use Rattle.std.specs.Str.{bytes_eq, is_utf8}
use Rattle.std.specs.Str.Parse.{without_leading_plus}
use Rattle.tokens.specs.Words.{number_in}
use Rattle.code_words.specs.declared.file_kind.FileKind.{FileKind}
use Rattle.code_words.specs.declared.file_kind.FileKind.TheVariants.{Empty, Utf16, Marked, Cell}
use Rattle.code_words.specs.declared.file_kind.FileKind.TheVariants.{Synced, Members, Key, Ledger}
use Rattle.code_words.specs.declared.file_kind.FileKind.TheVariants.{Journal, Deposits, Schedule}
use Rattle.code_words.specs.declared.file_kind.FileKind.TheVariants.{Json}

-- what a file of this kind is, with its article
abbrev pub name_of : FileKind → List ℕ
name_of Empty = codes "empty"
name_of Utf16 = codes "UTF-16: save it as UTF-8"
name_of Marked = codes "a text with a byte order mark: save it without"
name_of Cell = codes "a cell"
name_of Synced = codes "what a site leaves beside its cell"
name_of Members = codes "a members file"
name_of Key = codes "a key file"
name_of Ledger = codes "a list that `ledger` prints"
name_of Journal = codes "a list that `journal` prints"
name_of Deposits = codes "a list of deposits"
name_of Schedule = codes "a schedule"
name_of Json = codes "a line of JSON"

-- the same as a sentence, after a semicolon
abbrev pub said_of : FileKind → List ℕ
said_of Empty = codes "; it is empty"
said_of Utf16 = codes "; it is UTF-16: save it as UTF-8"
said_of Marked = codes "; it begins with a byte order mark: save it without"
said_of Cell = codes "; this is a cell"
said_of Synced = codes "; it is what a site leaves beside its cell: give the cell"
said_of Members = codes "; this is a members file"
said_of Key = codes "; this is a key file"
said_of Ledger = codes "; this is a list that `ledger` prints"
said_of Journal = codes "; this is a list that `journal` prints"
said_of Deposits = codes "; this is a list of deposits"
said_of Schedule = codes "; this is a schedule"
said_of Json = codes "; this is a line of JSON"

-- no key file is of this kind, however it was saved
abbrev pub is_no_key : FileKind → Bool
is_no_key Empty = false
is_no_key Utf16 = false
is_no_key Marked = false
is_no_key Key = false
is_no_key kind = true

-- ---- UTF-16

-- a byte at its place: it is zero, if the place is one of `first`, `first` + 2 and so on
abbrev pub is_zero_if_due : ℕ → (ℕ × ℕ) → Bool
is_zero_if_due first at = not (at.0 % 2 == first) || at.1 == 0

-- there are two bytes or more, and those at the places `first`, `first` + 2 and so on are zero
abbrev pub has_zeros : (bytes : List ℕ) → (first : ℕ) → Bool
has_zeros bytes first =
    nat_le 2 (length bytes)
    && list_all (is_zero_if_due first) (enumerate_from 0 bytes)

-- the bytes begin so
abbrev pub begins : (bytes start : List ℕ) → Bool
begins bytes start = starts_with (λ a b. a == b) bytes start

-- they begin with the mark of UTF-16, in either order, or every second one is zero, and not all are
unfoldable pub is_utf16 : List ℕ → Bool
is_utf16 bytes =
    begins bytes (0xFF ∷ 0xFE ∷ []) || begins bytes (0xFE ∷ 0xFF ∷ [])
    || not (list_all (λ byte. byte == 0) bytes) && (has_zeros bytes 0 || has_zeros bytes 1)

-- ---- texts, by a line

-- the words of a line, between ASCII white space
abbrev pub words_of : List ℕ → List (List ℕ)
words_of line = filter (λ word. not (length word == 0)) (slice_split is_ascii_whitespace line)

-- the word of this number, counted from 0; empty where there is none
abbrev pub word_at : (line : List ℕ) → ℕ → List ℕ
word_at line number = unwrap_or (slice_get (words_of line) number) []

-- a line of a key file begins with this word
abbrev pub is_key_word : List ℕ → Bool
is_key_word word = bytes_eq word (codes "sites") || bytes_eq word (codes "clients")

-- the first of four words or more of a line that `ledger` prints
abbrev pub is_ledger_word : List ℕ → Bool
is_ledger_word word =
    bytes_eq word (codes "known") || bytes_eq word (codes "pending")
    || bytes_eq word (codes "voted")

-- the words that a line of a schedule begins with, but for `federation`
abbrev pub commands : List (List ℕ)
commands =
    codes "tree" ∷ codes "folder" ∷ codes "file" ∷ codes "deposit" ∷ codes "propose"
    ∷ codes "recover" ∷ codes "deliver" ∷ codes "pump" ∷ codes "ask" ∷ codes "query"
    ∷ codes "raw" ∷ codes "stop" ∷ codes "start" ∷ []

-- a line of a schedule or of a members file begins with this word, but for `federation`
abbrev pub is_command : List ℕ → Bool
is_command word = bytes_eq word (codes "site") || list_any (λ it. bytes_eq it word) commands

-- a word is a number of 32 bits, which may have a plus before it
abbrev pub is_number : List ℕ → Bool
is_number word = is_some (number_in 0 4294967295 (without_leading_plus word))

abbrev pub is_empty : List ℕ → Bool
is_empty word = length word == 0

-- the path of a deposit: a number is more likely one of `federation F N`
abbrev pub is_path : List ℕ → Bool
is_path word = not (is_empty word) && not (is_number word)

-- what kind of text begins with a line of these words, where a missing one is empty
unfoldable pub kind_of_words : (first second third fourth : List ℕ) → Option FileKind
kind_of_words first second third fourth =
    if begins first (codes "{\"") then Some Json
    else if bytes_eq first (codes "cell") then if is_empty second then None else Some Journal
    else if bytes_eq first (codes "federation")
    then if is_empty second then None else if is_empty third then Some Members else Some Schedule
    else if is_key_word first && not (is_empty second) then Some Key
    else if is_ledger_word first && not (is_empty fourth) then Some Ledger
    else if bytes_eq first (codes "asked") && is_number third && is_empty fourth
    then Some Ledger
    else if not (is_command first) && is_number second && is_path third && is_empty fourth
    then Some Deposits
    else None

-- what kind of text begins with this line
abbrev pub kind_of_line : List ℕ → Option FileKind
kind_of_line line =
    kind_of_words (word_at line 0) (word_at line 1) (word_at line 2) (word_at line 3)

-- ---- files, by their first bytes

-- the line shows what kind its text has: it is UTF-16, or neither blank nor a comment
unfoldable pub shows_kind : List ℕ → Bool
shows_kind line =
    is_utf16 line || not (list_all is_ascii_whitespace line) && not (begins line (codes "#"))

-- the kind that it shows
unfoldable pub kind_shown : List ℕ → Option FileKind
kind_shown line =
    if is_utf16 line then Some Utf16 else if is_utf8 line then kind_of_line line else None

-- the first line that shows a kind, if there is one
abbrev pub line_showing : List ℕ → Option (List ℕ)
line_showing bytes = find shows_kind (slice_split (λ byte. byte == 10) bytes)

-- what kind of file begins with these bytes
unfoldable pub kind_of : List ℕ → Option FileKind
kind_of bytes =
    if is_empty bytes then Some Empty
    else if begins bytes (codes "BPJ") then Some Cell
    else if begins bytes (0xEF ∷ 0xBB ∷ 0xBF ∷ []) then Some Marked
    else option_and_then kind_shown (line_showing bytes)
