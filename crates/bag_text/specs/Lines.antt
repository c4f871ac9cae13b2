-- The lines of a text. They end by LF, CR, or CR and LF together (RFC 8493, 2.3).
use Rattle.std.specs.Prelude.{ℕ, Bool, false, ◌==◌, ◌&&◌, ◌||◌, if◌then◌else◌, List, [], ◌∷◌}
use Rattle.std.specs.List.{onto_first}

abbrev pub line_feed : ℕ
line_feed = 10

abbrev pub carriage_return : ℕ
carriage_return = 13

abbrev pub is_line_end : ℕ → Bool
is_line_end byte = byte == line_feed || byte == carriage_return

abbrev pub starts_with_line_feed : List ℕ → Bool
starts_with_line_feed [] = false
starts_with_line_feed (byte ∷ rest) = byte == line_feed

-- The lines in order, without their ends. A CR before LF is a part of that one end; any other CR,
-- and any LF, ends a line. Any other byte is the first byte of the first line of what comes after
-- it; if nothing does, it is a line by itself.
unfoldable pub lines_of : List ℕ → List (List ℕ)
lines_of [] = []
lines_of (byte ∷ rest) =
    if byte == carriage_return && starts_with_line_feed rest then lines_of rest
    else if is_line_end byte then [] ∷ lines_of rest
    else onto_first byte (lines_of rest)
