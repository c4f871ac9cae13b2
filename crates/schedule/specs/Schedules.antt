-- Schedules and their texts, by cases, beside the function that reads a text (`plan_of`), which
-- says the same.
use Rattle.std.specs.Prelude.{◌≡◌, ℕ, ◌+◌, List, [], ◌∷◌, ◌++◌, length, ⊤, ◌⊎◌}
use Rattle.std.specs.Prelude.{Option, Some, None, IfSome}
use Rattle.std.specs.List.{AllByRecursion}
use Rattle.std.specs.Str.Lines.{lines}
use Rattle.fed_types.specs.Sites.{Membership}
use Rattle.fed_types.specs.Values.{IsMembership}
use Rattle.schedule.specs.declared.command.Command.{Command}
use Rattle.tokens.specs.Grammar.{HasWords}
use Rattle.schedule.specs.Lines.{command_tokens, AreWordsForMembers}
use Rattle.schedule.specs.Plans.{Plan}
use Rattle.schedule.specs.Tokens.{AreWordsFor, HasWord}

-- the line is skipped: it has only spaces, or its first byte is `#`
abbrev pub IsSkipped : List ℕ → Type 0
IsSkipped line = HasWords line [] ⊎ ((rest : List ℕ) × (line ≡ 35 ∷ rest))

-- the line's words name the members
abbrev pub NamesMembers : List ℕ → Membership → Type 0
NamesMembers line m = (words : List (List ℕ)) × HasWords line words × AreWordsForMembers words m

-- what a line after the federation's says: it is skipped, or its words are the command's
abbrev pub Says : List ℕ → Option Command → Type 0
Says line None = IsSkipped line
Says line (Some command) =
    (words : List (List ℕ)) × HasWords line words × AreWordsFor words (command_tokens command)

-- the lines say these, one each, in order
abbrev pub AllSay : List (List ℕ) → List (Option Command) → Type 0
AllSay [] [] = ⊤
AllSay (line ∷ lines) (said ∷ more) = Says line said × AllSay lines more
AllSay lines more = ⊥

-- The text is this schedule: its first lines are skipped, the next one names the members, and the
-- later ones say what the schedule has.
pub record IsTextOf (text : List ℕ) (plan : Plan) : Type 0 where
  pub before : List (List ℕ)
  pub first : List ℕ
  pub later : List (List ℕ)
  pub is : lines text ≡ before ++ first ∷ later
  pub skipped : AllByRecursion IsSkipped before
  pub count : length before ≡ plan.skipped
  pub members : NamesMembers first plan.members
  pub says : AllSay later plan.lines

-- The text is no schedule, and this is the number of its first line at fault: 1 if every line is
-- skipped; the first line that isn't, if it names no members; or the first line after those that
-- name members and say something, if it says nothing.
pub data HasFault : List ℕ → ℕ → Type 0 where
  no_command : (text : List ℕ) (number : ℕ) → AllByRecursion IsSkipped (lines text) → number ≡ 1
      → HasFault text number
  no_federation : (text : List ℕ) (number : ℕ) (before later : List (List ℕ)) (line : List ℕ)
      → lines text ≡ before ++ line ∷ later → AllByRecursion IsSkipped before → ¬ IsSkipped line
      → ((m : Membership) → ¬ NamesMembers line m) → number ≡ length before + 1
      → HasFault text number
  no_later_command : (text : List ℕ) (number : ℕ) (before good later : List (List ℕ))
      (first line : List ℕ) (m : Membership) (said : List (Option Command))
      → lines text ≡ before ++ first ∷ (good ++ line ∷ later) → AllByRecursion IsSkipped before
      → NamesMembers first m → AllSay good said → ((what : Option Command) → ¬ Says line what)
      → number ≡ length before + 1 + length good + 1 → HasFault text number

-- each token of the command has a word: its numbers are in their ranges, its texts are UTF-8
abbrev pub IsCommand : Command → Type 0
IsCommand command = AllByRecursion HasWord (command_tokens command)

-- what is true of every schedule: some text is one of it
pub record IsPlan (plan : Plan) : Type 0 where
  pub members : IsMembership plan.members
  pub lines : AllByRecursion (λ line. IfSome line IsCommand) plan.lines
