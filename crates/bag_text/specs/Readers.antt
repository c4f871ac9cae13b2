-- The same texts as functions, which say what is read, or the number of the first malformed line.
use Rattle.std.specs.Prelude.{ℕ, ◌+◌, Bool, ◌==◌, ◌&&◌, nat_lt, not, if◌then◌else◌, List, []}
use Rattle.std.specs.Prelude.{◌∷◌, length, take, drop, Option, Some, None, option_and_then, Result}
use Rattle.std.specs.Prelude.{Ok, Err}
use Rattle.std.specs.Option.{option_map}
use Rattle.std.specs.Result.{result_ok}
use Rattle.std.specs.List.{list_all, before_first, after_first}
use Rattle.std.specs.Char.{is_ascii_digit}
use Rattle.std.specs.Str.{is_utf8, bytes_eq}
use Rattle.hex.specs.Hex.{decode_of}
use Rattle.bag_text.specs.declared.algorithm.Algorithm.{Algorithm}
use Rattle.bag_text.specs.Algorithms.{hex_len}
use Rattle.bag_text.specs.Lines.{lines_of}
use Rattle.bag_text.specs.Blanks.{is_blank}
use Rattle.bag_text.specs.Declarations.{version_label, encoding_label, full_stop, is_visible}
use Rattle.bag_text.specs.Paths.{path_of}
use Rattle.bag_text.specs.ListedFile.{ListedFile}

-- ---- parts of a line

-- the text without the spaces and tabs at its start, and without those at its end
unfoldable pub skip_blanks : List ℕ → List ℕ
skip_blanks [] = []
skip_blanks (byte ∷ rest) = if is_blank byte then skip_blanks rest else byte ∷ rest

unfoldable pub trim_blanks : List ℕ → List ℕ
trim_blanks [] = []
trim_blanks (byte ∷ rest) =
    if is_blank byte && list_all is_blank rest then [] else byte ∷ trim_blanks rest

-- what comes after the spaces and tabs at the start; at least one is required
abbrev pub after_gap : List ℕ → Option (List ℕ)
after_gap [] = None
after_gap (byte ∷ rest) = if is_blank byte then Some (skip_blanks rest) else None

-- ---- declarations

abbrev pub is_number : List ℕ → Bool
is_number digits = not (length digits == 0) && list_all is_ascii_digit digits

abbrev pub is_version : List ℕ → Bool
is_version value = is_number (before_first (λ byte. byte == full_stop) value)
    && is_number (after_first (λ byte. byte == full_stop) value)

abbrev pub is_encoding_name : List ℕ → Bool
is_encoding_name value = not (length value == 0) && list_all is_visible value

-- the value of the field of this label, where the line is one
unfoldable pub field_value : List ℕ → List ℕ → Option (List ℕ)
field_value label line =
    if bytes_eq (take (length label) line) label then option_map trim_blanks
    (after_gap (drop (length label) line)) else None

-- the value, where it passes the test
abbrev pub checked : (List ℕ → Bool) → Option (List ℕ) → Option (List ℕ)
checked test None = None
checked test (Some value) = if test value then Some value else None

unfoldable pub version_in : List ℕ → Option (List ℕ)
version_in line = checked is_version (field_value version_label line)

unfoldable pub encoding_in : List ℕ → Option (List ℕ)
encoding_in line = checked is_encoding_name (field_value encoding_label line)

-- the version and the encoding that the lines declare, or the number of the first malformed line
abbrev pub ended : List ℕ → List ℕ → List (List ℕ) → Result (List ℕ × List ℕ) ℕ
ended version encoding [] = Ok (version, encoding)
ended version encoding (third ∷ others) = Err 3

abbrev pub with_encoding : List ℕ → Option (List ℕ) → List (List ℕ) → Result (List ℕ × List ℕ) ℕ
with_encoding version None others = Err 2
with_encoding version (Some encoding) others = ended version encoding others

abbrev pub second_line : List ℕ → List (List ℕ) → Result (List ℕ × List ℕ) ℕ
second_line version [] = Err 2
second_line version (second ∷ others) = with_encoding version (encoding_in second) others

abbrev pub with_version : Option (List ℕ) → List (List ℕ) → Result (List ℕ × List ℕ) ℕ
with_version None others = Err 1
with_version (Some version) others = second_line version others

abbrev pub declared_by : List (List ℕ) → Result (List ℕ × List ℕ) ℕ
declared_by [] = Err 1
declared_by (first ∷ others) = with_version (version_in first) others

abbrev pub declaration_of : List ℕ → Result (List ℕ × List ℕ) ℕ
declaration_of text = declared_by (lines_of text)

-- ---- manifests

-- the path as it is written, after a gap
abbrev pub unless_empty : List ℕ → Option (List ℕ)
unless_empty [] = None
unless_empty (byte ∷ rest) = Some (byte ∷ rest)

abbrev pub written_path : List ℕ → Option (List ℕ)
written_path rest = option_and_then unless_empty (after_gap rest)

-- a path that is text
abbrev pub path_in : List ℕ → Option (List ℕ)
path_in written = if is_utf8 (path_of written) then Some (path_of written) else None

-- the file that the line lists, if it does
unfoldable pub file_in : Algorithm → List ℕ → Option ListedFile
file_in algorithm line =
    if nat_lt (length line) (hex_len algorithm) then None
    else option_and_then
    (λ digest. option_and_then
    (λ written. option_map (λ path. record { digest = digest; path = path }) (path_in written))
    (written_path (drop (hex_len algorithm) line)))
    (result_ok (decode_of (take (hex_len algorithm) line)))

-- the file before those that are read after it
abbrev pub onto : ListedFile → Result (List ListedFile) ℕ → Result (List ListedFile) ℕ
onto file (Ok files) = Ok (file ∷ files)
onto file (Err line) = Err line

abbrev pub onto_or : Option ListedFile → ℕ → Result (List ListedFile) ℕ → Result (List ListedFile) ℕ
onto_or None number others = Err number
onto_or (Some file) number others = onto file others

-- the files that the lines list, if the first line has this number, or the number of the first
-- malformed line
unfoldable pub files_from : Algorithm → ℕ → List (List ℕ) → Result (List ListedFile) ℕ
files_from algorithm number [] = Ok []
files_from algorithm number (line ∷ lines) =
    if list_all is_blank line then files_from algorithm (number + 1) lines
    else onto_or (file_in algorithm line) number (files_from algorithm (number + 1) lines)

abbrev pub entries_of : Algorithm → List ℕ → Result (List ListedFile) ℕ
entries_of algorithm text = files_from algorithm 1 (lines_of text)
