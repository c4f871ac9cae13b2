-- Schedules, and the text of one.
use Rattle.std.specs.Prelude.{ℕ, ◌+◌, Bool, ◌||◌, ◌==◌, if◌then◌else◌}
use Rattle.std.specs.Prelude.{List, [], ◌∷◌, length, slice_index}
use Rattle.std.specs.Prelude.{Option, Some, None, Result, Ok, Err}
use Rattle.std.specs.Option.{option_map}
use Rattle.std.specs.Str.Lines.{lines}
use Rattle.fed_types.specs.Sites.{Membership}
use Rattle.schedule.specs.declared.command.Command.{Command}
use Rattle.tokens.specs.Words.{words_of}
use Rattle.schedule.specs.Commands.{federation_of, command_of}

-- a schedule: the skipped lines before its first command, the members that this one names, and each
-- later line, a command or skipped
pub record Plan : Type 0 where
  pub skipped : ℕ
  pub members : Membership
  pub lines : List (Option Command)

-- the schedule of these parts
abbrev pub plan_with : ℕ → Membership → List (Option Command) → Plan
plan_with skipped members lines =
    record { skipped = skipped; members = members; lines = lines }

-- only spaces, or a comment: a line whose first byte is `#`
abbrev pub is_skipped : List ℕ → Bool
is_skipped line = length (words_of line) == 0 || slice_index line 0 == 35

-- what a line after the federation's says: it is skipped, or it is a command, or (None) it is
-- neither
unfoldable pub later_line : List ℕ → Option (Option Command)
later_line line =
    if is_skipped line
    then Some None
    else option_map (λ command. Some command) (command_of (words_of line))

-- what lines after the federation's say, or the number of the first of them at fault
abbrev pub LaterLines : Type 0
LaterLines = Result (List (Option Command)) ℕ

-- what the first line says, and then what those after it say, or the number of the first line at
-- fault
abbrev pub line_then : Option (Option Command) → ℕ → LaterLines → LaterLines
line_then None number later = Err number
line_then (Some said) number (Err fault) = Err fault
line_then (Some said) number (Ok commands) = Ok (said ∷ commands)

-- what the lines say, the first of them being the line of this number
unfoldable pub later_lines : ℕ → List (List ℕ) → LaterLines
later_lines number [] = Ok []
later_lines number (line ∷ lines) =
    line_then (later_line line) number (later_lines (number + 1) lines)

-- the schedule of a federation's line and of what the lines after it say
abbrev pub plan_from : ℕ → Option Membership → LaterLines → Result Plan ℕ
plan_from skipped None later = Err (skipped + 1)
plan_from skipped (Some members) (Err fault) = Err fault
plan_from skipped (Some members) (Ok commands) =
    Ok (plan_with skipped members commands)

-- the schedule of these lines, after some that were skipped, by their number
unfoldable pub plan_after : ℕ → List (List ℕ) → Result Plan ℕ
plan_after skipped [] = Err 1
plan_after skipped (line ∷ lines) =
    if is_skipped line
    then plan_after (skipped + 1) lines
    else plan_from skipped (federation_of (words_of line)) (later_lines (skipped + 2) lines)

-- the schedule of a text, or the number of its first line at fault: the first command has to be
-- `federation`, which comes once, and a text without a command has its fault in line 1
unfoldable pub plan_of : List ℕ → Result Plan ℕ
plan_of text = plan_after 0 (lines text)
