-- A list of deposits, line by line.
use Rattle.std.specs.Prelude.{◌≡◌, ⊤, ◌≤◌, ◌-◌, ℕ, Bool, true, false, ◌==◌, ◌||◌, ◌&&◌, nat_le}
use Rattle.std.specs.Prelude.{if◌then◌else◌, List, [], ◌∷◌, length, map, take, filter_map, not}
use Rattle.std.specs.Prelude.{Option, Some, None, is_some, Result, Ok, Err, Vec}
use Rattle.std.specs.Global.{Global}
use Rattle.std.specs.List.{list_all, list_any}
use Rattle.std.specs.Str.{bytes_eq}
use Rattle.std.specs.Str.Lines.{lines}
use Rattle.dgram.specs.Numbers.{LONGEST_PATH}
use Rattle.fed_types.specs.Slots.{SlotName, same_slot}
use Rattle.tokens.specs.Slots.{slot_of}
use Rattle.tokens.specs.Words.{◌>>=◌, words_of, text_of}
use Rattle.deposit_list.specs.declared.deposit.Deposit.{Deposit}
use Rattle.deposit_list.specs.declared.deposit_lines.ListFault.{ListFault}
use Rattle.deposit_list.specs.declared.deposit_lines.ListFault.TheVariants.{Line, Memory}

-- PATH: a text that isn't empty, and not too long
unfoldable pub path_of : List ℕ → Option (List ℕ)
path_of word = do
  path ← text_of word
  if nat_le 1 (length path) && nat_le (length path) LONGEST_PATH then Some path else None

-- OBJ V PATH
unfoldable pub deposit_in : List (List ℕ) → Option Deposit
deposit_in (object ∷ version ∷ word ∷ []) = do
  s ← slot_of object version
  p ← path_of word
  Some (record { slot = s; path = p })
deposit_in words = None

-- it begins with a byte order mark
abbrev pub has_mark : List ℕ → Bool
has_mark line = bytes_eq (take 3 line) (239 ∷ 187 ∷ 191 ∷ [])

-- the deposit of a line, if it has one
abbrev pub deposit_of : List ℕ → Option Deposit
deposit_of line = if has_mark line then None else deposit_in (words_of line)

-- it has one, or no word
abbrev pub is_line : List ℕ → Bool
is_line line = is_some (deposit_of line) || (length (words_of line) == 0)

-- the versions that deposits are of
abbrev pub slots_of : List Deposit → List SlotName
slots_of deposits = map (λ deposit. deposit.slot) deposits

-- one of them is of this version
unfoldable pub has_slot : List Deposit → SlotName → Bool
has_slot deposits slot = list_any (same_slot slot) (slots_of deposits)

-- two of them are of one version
abbrev pub repeats : List Deposit → Bool
repeats [] = false
repeats (deposit ∷ deposits) = has_slot deposits deposit.slot || repeats deposits

-- each line has a deposit or no word, and no two have the same version
abbrev pub are_lines : List (List ℕ) → Bool
are_lines text = list_all is_line text && not (repeats (filter_map deposit_of text))

-- the text is a list, of these deposits, line by line
abbrev pub ListHas : List ℕ → List Deposit → Type 0
ListHas text deposits =
    (are_lines (lines text) ≡ true) × (deposits ≡ filter_map deposit_of (lines text))

-- it isn't one: up to this line, counted from 1, it isn't, and up to the line before it is
abbrev pub HasOtherLine : List ℕ → ℕ → Type 0
HasOtherLine text number =
    (1 ≤ number) × (number ≤ length (lines text))
    × (are_lines (take (number - 1) (lines text)) ≡ true)
    × (are_lines (take number (lines text)) ≡ false)

-- a deposit of a version that these have
abbrev pub is_of_one : List Deposit → Option Deposit → Bool
is_of_one before None = false
is_of_one before (Some deposit) = has_slot before deposit.slot

-- a line that may come after those of these deposits
abbrev pub may_follow : List Deposit → List ℕ → Bool
may_follow before line = is_line line && not (is_of_one before (deposit_of line))

-- what reading a list answers: its deposits, or its first line at fault, or that memory ran out
abbrev pub IsListOf : List ℕ → Result (Vec Deposit Global) ListFault → Type 0
IsListOf text (Ok deposits) = ListHas text deposits.items
IsListOf text (Err (Line number)) = HasOtherLine text number
IsListOf text (Err Memory) = ⊤
