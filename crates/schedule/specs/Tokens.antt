-- What a word of a line can mean: a token. Which words there are for a token, and which one is
-- printed.
use Rattle.std.specs.Prelude.{◌≡◌, ℕ, ◌<◌, ◌≤◌, ⊤, ◌==◌, if◌then◌else◌}
use Rattle.std.specs.Prelude.{List, [], ◌∷◌, length, codes, ◌⊎◌}
use Rattle.std.specs.Fmt.{decimal}
use Rattle.std.specs.Str.{IsUtf8}
use Rattle.hex.specs.Hex.{encode_lower, IsBytes}
use Rattle.fed_types.specs.Slots.{IsObjectName}
use Rattle.tokens.specs.Escapes.{escaped_text}
use Rattle.tokens.specs.Grammar.{IsNumeral, AreHexDigitsOf, Unescapes}

-- a token: this very word; a number from the first to the second, of the third as its value; a
-- file's path, or an object's name, of these bytes; or these bytes in hex digits
pub data Token : Type 0 where
  Keyword : List ℕ → Token
  Number : ℕ → ℕ → ℕ → Token
  Text : List ℕ → Token
  Object : List ℕ → Token
  Hex : List ℕ → Token

-- the word's bytes, with its escapes undone, are this text, in UTF-8
abbrev pub IsTextFor : List ℕ → List ℕ → Type 0
IsTextFor word text = Unescapes word text × IsUtf8 text

-- two hex digits of either case for each byte, or `-` for no bytes
abbrev pub IsHexFor : List ℕ → List ℕ → Type 0
IsHexFor word bytes = ((word ≡ codes "-") × (bytes ≡ [])) ⊎ AreHexDigitsOf word bytes

-- the word is one for the token
abbrev pub IsWordFor : List ℕ → Token → Type 0
IsWordFor word (Keyword text) = word ≡ text
IsWordFor word (Number low high value) = IsNumeral word value × (low ≤ value) × (value ≤ high)
IsWordFor word (Text text) = IsTextFor word text
IsWordFor word (Object name) = IsTextFor word name × IsObjectName name
IsWordFor word (Hex bytes) = IsHexFor word bytes

-- there are as many words as tokens, and each is one for the token in its place
abbrev pub AreWordsFor : List (List ℕ) → List Token → Type 0
AreWordsFor [] [] = ⊤
AreWordsFor (word ∷ words) (token ∷ tokens) = IsWordFor word token × AreWordsFor words tokens
AreWordsFor words tokens = ⊥

-- bytes as a word: in lower case, and `-` for none
abbrev pub hex_word : List ℕ → List ℕ
hex_word bytes = if length bytes == 0 then codes "-" else encode_lower bytes

-- the one word that is printed for a token
abbrev pub printed_token : Token → List ℕ
printed_token (Keyword text) = text
printed_token (Number low high value) = decimal value
printed_token (Text text) = escaped_text text
printed_token (Object name) = escaped_text name
printed_token (Hex bytes) = hex_word bytes

-- a token that has a word: its number is in its range, its path or name is a text that isn't empty,
-- a name isn't too long, and its bytes are bytes
abbrev pub HasWord : Token → Type 0
HasWord (Keyword text) = ⊤
HasWord (Number low high value) = (low ≤ value) × (value ≤ high)
HasWord (Text text) = (0 < length text) × IsUtf8 text
HasWord (Object name) = IsObjectName name × IsUtf8 name
HasWord (Hex bytes) = IsBytes bytes
