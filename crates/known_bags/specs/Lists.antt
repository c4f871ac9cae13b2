-- The bags that a list of versions knows, as the command `ledger` prints it.
use Rattle.std.specs.Prelude.{◌≡◌, ◌≤◌, ◌-◌, ℕ, Bool, true, false, ◌||◌}
use Rattle.std.specs.Prelude.{if◌then◌else◌}
use Rattle.std.specs.Prelude.{List, [], ◌∷◌, length, take, get_or, filter_map, codes}
use Rattle.std.specs.Prelude.{Option, Some, None}
use Rattle.std.specs.List.{list_all, list_any}
use Rattle.std.specs.Option.{option_map}
use Rattle.std.specs.Result.{result_ok}
use Rattle.std.specs.Str.{bytes_eq}
use Rattle.std.specs.Str.Lines.{lines}
use Rattle.hex.specs.Hex.{decode_sized}
use Rattle.fed_types.specs.declared.bag_id.BagId.{BagId}
use Rattle.fed_types.specs.Limits.{bag_len}
use Rattle.fed_types.specs.Slots.{SlotName}
use Rattle.tokens.specs.Slots.{slot_of}
use Rattle.tokens.specs.Words.{◌>>=◌, words_of}
use Rattle.known_bags.specs.declared.known_bag.KnownBag.{KnownBag}

-- a bag that is known for a version, before it is looked for anywhere
abbrev pub known_for : SlotName → BagId → KnownBag
known_for slot bag = record { slot = slot; bag = bag; is_found = false }

-- HEX: two digits for each byte of an identity
unfoldable pub bag_of : List ℕ → Option BagId
bag_of digits = option_map (λ bytes. record { 0 = bytes }) (result_ok (decode_sized digits bag_len))

-- `known OBJ V HEX`
unfoldable pub known_in : List (List ℕ) → Option KnownBag
known_in (name ∷ object ∷ version ∷ digits ∷ []) =
    if bytes_eq name (codes "known") then (do
      slot ← slot_of object version
      bag ← bag_of digits
      Some (known_for slot bag))
    else None
known_in words = None

-- what begins a line of a ledger that says of no bag that it is known
abbrev pub other_words : List (List ℕ)
other_words =
    codes "pending" ∷ codes "voted" ∷ codes "asked" ∷ codes "torn" ∷ []

-- no words, or the words of such a line
unfoldable pub is_passed_over : List (List ℕ) → Bool
is_passed_over [] = true
is_passed_over (first ∷ words) = list_any (λ word. bytes_eq first word) other_words

-- what a line knows
abbrev pub known_by : List ℕ → Option KnownBag
known_by line = known_in (words_of line)

abbrev pub is_some : {X : Type 0} → Option X → Bool
is_some None = false
is_some (Some x) = true

-- a line of a ledger
abbrev pub is_line : List ℕ → Bool
is_line line = is_some (known_by line) || is_passed_over (words_of line)

abbrev pub are_lines : List (List ℕ) → Bool
are_lines text = list_all is_line text

-- the text is a list of versions, and knows these bags, line by line
abbrev pub ListKnows : List ℕ → List KnownBag → Type 0
ListKnows text bags =
    (are_lines (lines text) ≡ true) × (bags ≡ filter_map known_by (lines text))

-- it isn't one: this line, counted from 1, is the first that no ledger has
abbrev pub HasOtherLine : List ℕ → ℕ → Type 0
HasOtherLine text number =
    (1 ≤ number) × (number ≤ length (lines text))
    × (are_lines (take (number - 1) (lines text)) ≡ true)
    × (is_line (get_or (lines text) (number - 1) []) ≡ false)

-- ---- of a damaged cell

-- `damaged N`, with which `ledger` ends the list of a damaged cell: in it stands what comes before
-- the damage
abbrev pub says_damage : List (List ℕ) → Bool
says_damage [] = false
says_damage (first ∷ words) = bytes_eq first (codes "damaged")

-- a line says so
abbrev pub is_of_damage : List ℕ → Bool
is_of_damage text = list_any (λ line. says_damage (words_of line)) (lines text)
