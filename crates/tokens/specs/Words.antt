-- The words of a line, and the numbers, texts and bytes that a word may stand for.
use Rattle.std.specs.Prelude.{ℕ, ◌+◌, ◌*◌, ◌-◌, nat_le, ◌&&◌, ◌==◌, not, if◌then◌else◌}
use Rattle.std.specs.Prelude.{List, [], ◌∷◌, length, filter, codes, Option, Some, None}
use Rattle.std.specs.Result.{result_ok}
use Rattle.std.specs.List.{slice_split}
use Rattle.std.specs.Str.{bytes_eq, all_ascii_digits, is_utf8}
use Rattle.hex.specs.Hex.{decode_of}
use Rattle.percent_encoding.specs.Percent.{percent_decode}

infixl 10 ◌>>=◌
-- the second step, if the first found something
abbrev pub ◌>>=◌ : {A B : Type 0} → Option A → (A → Option B) → Option B
None >>= f = None
(Some x) >>= f = f x

-- what spaces separate: one or more between two words, any number at both ends
unfoldable pub words_of : List ℕ → List (List ℕ)
words_of line = filter (λ word. not (length word == 0)) (slice_split (λ b. b == 32) line)

-- the number of decimal digits, after earlier ones whose number is n
abbrev pub value_after : ℕ → List ℕ → ℕ
value_after n [] = n
value_after n (digit ∷ digits) = value_after (10 * n + (digit - 48)) digits

-- one or more ASCII digits, of a value from low to high
unfoldable pub number_in : ℕ → ℕ → List ℕ → Option ℕ
number_in low high word =
    let value = value_after 0 word in
    if not (length word == 0) && all_ascii_digits word && nat_le low value && nat_le value high
    then Some value
    else None

-- the bytes of a word with its escapes undone, where they are UTF-8
unfoldable pub text_of : List ℕ → Option (List ℕ)
text_of word = if is_utf8 (percent_decode word) then Some (percent_decode word) else None

-- `-` for no bytes, else two hex digits of either case for each byte; a word has at least one byte,
-- so at least two digits
unfoldable pub bytes_of : List ℕ → Option (List ℕ)
bytes_of word = if bytes_eq word (codes "-") then Some [] else result_ok (decode_of word)
