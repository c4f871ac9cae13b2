-- The one text in which a schedule is printed.
use Rattle.std.specs.Prelude.{ℕ, ◌==◌, if◌then◌else◌, Option, Some, None}
use Rattle.std.specs.Prelude.{List, [], ◌∷◌, ◌++◌, map, replicate, codes}
use Rattle.std.specs.List.{flat_map, join_with_byte, list_all}
use Rattle.std.specs.Fmt.{decimal}
use Rattle.fed_types.specs.Sites.{Membership, count_of}
use Rattle.schedule.specs.declared.command.Command.{Command}
use Rattle.schedule.specs.Lines.{command_tokens}
use Rattle.schedule.specs.Plans.{Plan}
use Rattle.schedule.specs.Tokens.{printed_token}

-- a command's words
abbrev pub words_for : Command → List (List ℕ)
words_for command = map printed_token (command_tokens command)

-- words with one space between them, and the end of the line
abbrev pub line_of_words : List (List ℕ) → List ℕ
line_of_words words = join_with_byte 32 words ++ 10 ∷ []

-- a command's line
abbrev pub printed_command : Command → List ℕ
printed_command command = line_of_words (words_for command)

-- a command's line, or an empty one
abbrev pub printed_line : Option Command → List ℕ
printed_line None = 10 ∷ []
printed_line (Some command) = printed_command command

-- the weights that are printed: none where each is 1
abbrev pub printed_weights : List ℕ → List ℕ
printed_weights weights = if list_all (λ w. w == 1) weights then [] else weights

-- the words that name a federation's members, and their line
unfoldable pub federation_words : Membership → List (List ℕ)
federation_words m =
    codes "federation" ∷ decimal m.federation ∷ decimal (count_of m)
    ∷ map decimal (printed_weights m.weights)

abbrev pub federation_line : Membership → List ℕ
federation_line m = line_of_words (federation_words m)

-- each line of a schedule at its number, those that are skipped empty
unfoldable pub schedule_text : Plan → List ℕ
schedule_text plan =
    replicate plan.skipped 10
    ++ federation_line plan.members
    ++ flat_map printed_line plan.lines
