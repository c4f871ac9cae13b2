-- The words of a line, and what a word stands for, by cases, beside the functions that read them
-- (`words_of`, `number_in`, `text_of` and `bytes_of`), which say the same.
use Rattle.std.specs.Prelude.{◌≡◌, ◌≢◌, ℕ, ◌+◌, ◌*◌, ◌<◌, ⊤, ◌⊎◌}
use Rattle.std.specs.Prelude.{List, [], ◌∷◌, ◌++◌, length, replicate, All}
use Rattle.std.specs.Char.{digit_char}
use Rattle.tokens.specs.Escapes.{capital_digit}

-- at least one byte, and none of them a space
abbrev pub HasNoSpace : List ℕ → Type 0
HasNoSpace word = (0 < length word) × All (λ b. b ≢ 32) word

-- nothing is left, or a space comes next
abbrev pub EndsWord : List ℕ → Type 0
EndsWord [] = ⊤
EndsWord (b ∷ rest) = b ≡ 32

-- The line has these words, in order: one or more spaces are between two of them, and any number at
-- both ends.
pub data HasWords : List ℕ → List (List ℕ) → Type 0 where
  spaces : (line : List ℕ) (n : ℕ) → line ≡ replicate n 32 → HasWords line []
  word : (line first rest : List ℕ) (others : List (List ℕ)) (n : ℕ)
      → line ≡ replicate n 32 ++ (first ++ rest) → HasNoSpace first → EndsWord rest
      → HasWords rest others → HasWords line (first ∷ others)

-- The word is one or more decimal digits, of this value; leading zeros add nothing to it.
pub data IsNumeral : List ℕ → ℕ → Type 0 where
  digit : (word : List ℕ) (value : ℕ) → value < 10 → word ≡ (48 + value) ∷ []
      → IsNumeral word value
  more : (word digits : List ℕ) (value tens last : ℕ) → IsNumeral digits tens → last < 10
      → word ≡ digits ++ (48 + last) ∷ [] → value ≡ 10 * tens + last → IsNumeral word value

-- the byte is the hex digit of this value, of either case
abbrev pub IsHexDigit : ℕ → ℕ → Type 0
IsHexDigit byte value =
    (value < 16) × ((byte ≡ capital_digit value) ⊎ (byte ≡ digit_char value))

-- two hex digits for each byte, the high one first
pub data AreHexDigitsOf : List ℕ → List ℕ → Type 0 where
  none : (word bytes : List ℕ) → word ≡ [] → bytes ≡ [] → AreHexDigitsOf word bytes
  pair : (word bytes : List ℕ) (high low h l : ℕ) (digits others : List ℕ)
      → word ≡ high ∷ low ∷ digits → IsHexDigit high h → IsHexDigit low l
      → AreHexDigitsOf digits others → bytes ≡ (16 * h + l) ∷ others → AreHexDigitsOf word bytes

-- an escape comes first: a percent sign and two hex digits
abbrev pub BeginsEscape : List ℕ → Type 0
BeginsEscape bytes =
    (high : ℕ) × (low : ℕ) × (h : ℕ) × (l : ℕ) × (rest : List ℕ)
    × (bytes ≡ 37 ∷ high ∷ low ∷ rest) × IsHexDigit high h × IsHexDigit low l

-- The bytes of a word, from left to right: an escape is the byte of its value, and any other byte
-- stands for itself, a percent sign too.
pub data Unescapes : List ℕ → List ℕ → Type 0 where
  end : (word text : List ℕ) → word ≡ [] → text ≡ [] → Unescapes word text
  escape : (word text : List ℕ) (high low h l : ℕ) (rest others : List ℕ)
      → word ≡ 37 ∷ high ∷ low ∷ rest → IsHexDigit high h → IsHexDigit low l
      → Unescapes rest others → text ≡ (16 * h + l) ∷ others → Unescapes word text
  itself : (word text : List ℕ) (byte : ℕ) (rest others : List ℕ) → word ≡ byte ∷ rest
      → ¬ BeginsEscape word → Unescapes rest others → text ≡ byte ∷ others → Unescapes word text
