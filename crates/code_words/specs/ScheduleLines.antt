-- The lines of a schedule, by their numbers.
use Rattle.std.specs.Prelude.{ℕ, ◌-◌, ◌==◌, Bool, not, ◌||◌, List, [], length, take, codes}
use Rattle.std.specs.Prelude.{slice_get, unwrap_or}
use Rattle.std.specs.List.{list_any}
use Rattle.std.specs.Str.Lines.{lines}
use Rattle.tokens.specs.Words.{words_of}
use Rattle.code_words.specs.FileKinds.{begins}

-- the line of this number, counted from 1; empty where there is none
abbrev pub line_at : (text : List ℕ) → (number : ℕ) → List ℕ
line_at text number = unwrap_or (slice_get (lines text) (number - 1)) []

-- a line is no command: it is a comment, or has no word
abbrev pub is_skipped : List ℕ → Bool
is_skipped line = begins line (codes "#") || length (words_of line) == 0

-- one of the lines before this number is a command
abbrev pub has_command_before : (text : List ℕ) → (number : ℕ) → Bool
has_command_before text number =
    list_any (λ line. not (is_skipped line)) (take (number - 1) (lines text))
