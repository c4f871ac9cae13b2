-- The words of tokens, one token at a time: those that are read, and the one that is printed.
use Rattle.std.proofs.Common.{◌≡◌, ℕ, ◌^◌, ◌<◌, Bool, true, ◌&&◌, ltb, List, [], ◌∷◌, ◌++◌, length}
use Rattle.std.proofs.Common.{map, Option, Some, None, Ok, refl, sym, inl, inr, Result, Err, cond}
use Rattle.std.proofs.Common.{subst, leb, arith}
use Rattle.std.specs.Prelude.{codes}
use Rattle.std.specs.List.{AllByRecursion}
use Rattle.std.specs.Option.{option_map}
use Rattle.std.specs.Result.{result_ok}
use Rattle.std.specs.Str.{IsUtf8, is_utf8, bytes_eq}
use Rattle.std.proofs.lemmas.Bool.{cases_Bool, and_parts, le-leb, leb-true, ltb-true}
use Rattle.std.proofs.lemmas.Option.{cond_some, same_Some}
use Rattle.std.proofs.lemmas.Slice.Eq.{bytes_eq-Decides}
use Rattle.std.proofs.lemmas.Str.{IsUtf8-from_is_utf8, is_utf8-from_IsUtf8}
use Rattle.hex.specs.Hex.{decode_of, IsBytes}
use Rattle.hex.proofs.HexLemmas.{decode_of-ok}
use Rattle.percent_encoding.specs.Percent.{percent_decode}
use Rattle.fed_types.specs.Limits.{longest_object}
use Rattle.fed_types.specs.Slots.{IsObjectName}
use Rattle.tokens.specs.Words.{text_of, bytes_of}
use Rattle.tokens.specs.Slots.{object_of}
use Rattle.tokens.proofs.StepLemmas.{bind_some}
use Rattle.tokens.specs.Grammar.{Unescapes}
use Rattle.schedule.specs.Tokens.{Token, Keyword, Number, Text, Object, Hex, IsTextFor, IsHexFor}
use Rattle.schedule.specs.Tokens.{IsWordFor, AreWordsFor, HasWord, printed_token}
use Rattle.schedule.specs.inner.Printed.{IsWord}
use Rattle.tokens.proofs.GrammarLemmas.{IsNumeral-number_in}
use Rattle.tokens.proofs.TextLemmas.{percent_decode-some, text_of-utf8, text_of-not_utf8}
use Rattle.tokens.proofs.UnescapeLemmas.{percent_decode-from, Unescapes-percent_decode}
use Rattle.tokens.proofs.UnescapeLemmas.{decode_of-from, AreHexDigitsOf-decode_of}
use Rattle.schedule.proofs.WordLemmas.{all_above, IsWord-computed, IsWord-decimal, IsWord-escaped}
use Rattle.schedule.proofs.WordLemmas.{IsWord-hex_word}
use Rattle.tokens.proofs.PrintedWords.{number_in-decimal, text_of-escaped}
use Rattle.schedule.proofs.PrintedWords.{bytes_of-hex_word}

-- ---- a text, a name and bytes

pub text_of-from : (word text : List ℕ) → IsTextFor word text → text_of word ≡ Some text
text_of-from word text is =
    let whole = percent_decode-from word text is.0 in
    rw (text_of-utf8 word (rw whole (is_utf8-from_IsUtf8 text is.1)), whole)

pub IsTextFor-text_of : (word text : List ℕ) → text_of word ≡ Some text → IsTextFor word text
IsTextFor-text_of word text found =
    elim (cases_Bool (is_utf8 (percent_decode word))) [
      | inl utf8 ↦
          let whole : percent_decode word ≡ text = cc (text_of-utf8 word utf8, found) in (
            subst (Unescapes word) whole (Unescapes-percent_decode word),
            subst IsUtf8 whole (IsUtf8-from_is_utf8 (percent_decode word) utf8),
          )
      | inr not_utf8 ↦
          absurd (cc (text_of-not_utf8 word not_utf8, found))
    ]

pub object_of-from : (word name : List ℕ) → IsTextFor word name × IsObjectName name
    → object_of word ≡ Some name
unfolding object_of
object_of-from word name is =
    rw (text_of-from word name is.0)
    (rw (le-leb 1 (length name) is.1.0, le-leb (length name) longest_object is.1.1))

pub IsObject-object_of : (word name : List ℕ) → object_of word ≡ Some name
    → IsTextFor word name × IsObjectName name
unfolding object_of
IsObject-object_of word name found =
    let text =
    bind_some (text_of word)
    (λ n. cond (leb 1 (length n) && leb (length n) longest_object) (Some n) None) name found in
    let fits =
    cond_some (leb 1 (length text.0) && leb (length text.0) longest_object) text.0 name text.2 in
    let parts =
    and_parts (leb 1 (length text.0)) (leb (length text.0) longest_object) fits.0 in
    let range : IsObjectName text.0 =
    (leb-true 1 (length text.0) parts.0, leb-true (length text.0) longest_object parts.1) in (
      subst (IsTextFor word) fits.1 (IsTextFor-text_of word text.0 text.1),
      subst IsObjectName fits.1 range,
    )

pub bytes_of-from : (word bytes : List ℕ) → IsHexFor word bytes → bytes_of word ≡ Some bytes
unfolding bytes_of
bytes_of-from word bytes (inl is) = rw (is.0, is.1)
bytes_of-from word bytes (inr is) =
    elim (cases_Bool (bytes_eq word (codes "-"))) [
      | inl dash ↦
          let no_hex = rw ((bytes_eq-Decides word (codes "-")).0 dash) at is in
          absurd (cc (decode_of-from (codes "-") bytes no_hex))
      | inr isnt ↦ rw (isnt, decode_of-from word bytes is)
    ]

-- an answer that is a value
ok_from : {X E : Type 0} (found : Result X E) (x : X) → result_ok found ≡ Some x → found ≡ Ok x
ok_from (Ok y) x is = cc is
ok_from (Err e) x is = absurd (cc is)

pub IsHexFor-bytes_of : (word bytes : List ℕ) → bytes_of word ≡ Some bytes → IsHexFor word bytes
unfolding bytes_of
IsHexFor-bytes_of word bytes found =
    elim (cases_Bool (bytes_eq word (codes "-"))) [
      | inl dash ↦
          inl ((bytes_eq-Decides word (codes "-")).0 dash, cc (rw dash at found))
      | inr isnt ↦
          let some = rw isnt at found in
          inr (AreHexDigitsOf-decode_of word bytes (ok_from (decode_of word) bytes some))
    ]

-- ---- a token that has a word

pub HasWord-from : (word : List ℕ) (token : Token) → 0 < length word → IsWordFor word token
    → HasWord token
HasWord-from word (Keyword text) some is = tt
HasWord-from word (Number low high value) some is = (is.1, is.2)
HasWord-from word (Text text) some is = (
  subst (λ (t : List ℕ). 0 < length t) (percent_decode-from word text is.0)
      (percent_decode-some word some),
  is.1,
)
HasWord-from word (Object name) some is = (is.1, is.0.1)
HasWord-from word (Hex bytes) some (inl is) =
    subst IsBytes (sym is.1) (λ i. omega arith)
HasWord-from word (Hex bytes) some (inr is) =
    (decode_of-ok word bytes (decode_of-from word bytes is)).3

-- words for tokens, none of them empty, are words that there are
pub HaveWords-from : (words : List (List ℕ)) (tokens : List Token)
    → AllByRecursion (λ word. 0 < length word) words → AreWordsFor words tokens
    → AllByRecursion HasWord tokens
HaveWords-from [] [] some are = tt
HaveWords-from (word ∷ words) (token ∷ tokens) some are =
    (HasWord-from word token some.0 are.0, HaveWords-from words tokens some.1 are.1)
HaveWords-from _ _ some are = absurd are

-- ---- what is printed

-- a token that can be printed: its own word has no space or control, its range fits 64 bits
abbrev pub is_plain : Token → Bool
is_plain (Keyword text) = ltb 0 (length text) && all_above text
is_plain (Number low high value) = ltb high (2 ^ 64)
is_plain (Text text) = true
is_plain (Object name) = true
is_plain (Hex bytes) = true

abbrev pub are_plain : List Token → Bool
are_plain [] = true
are_plain (token ∷ tokens) = is_plain token && are_plain tokens

pub IsWordFor-printed : (token : Token) → is_plain token ≡ true → HasWord token
    → IsWordFor (printed_token token) token
IsWordFor-printed (Keyword text) plain has = refl
IsWordFor-printed (Number low high value) plain has =
    IsNumeral-number_in low high (printed_token (Number low high value)) value
    (number_in-decimal low high value has.0 has.1 (ltb-true high (2 ^ 64) plain))
IsWordFor-printed (Text text) plain has =
    IsTextFor-text_of (printed_token (Text text)) text (text_of-escaped text has.1)
IsWordFor-printed (Object name) plain has =
    (IsTextFor-text_of (printed_token (Object name)) name (text_of-escaped name has.1), has.0)
IsWordFor-printed (Hex bytes) plain has =
    IsHexFor-bytes_of (printed_token (Hex bytes)) bytes (bytes_of-hex_word bytes has)

pub IsWord-printed : (token : Token) → is_plain token ≡ true → HasWord token
    → IsWord (printed_token token)
IsWord-printed (Keyword text) plain has = IsWord-computed text plain
IsWord-printed (Number low high value) plain has =
    IsWord-decimal value (omega (arith, has.1, ltb-true high (2 ^ 64) plain))
IsWord-printed (Text text) plain has = IsWord-escaped text has.0
IsWord-printed (Object name) plain has = IsWord-escaped name (omega (arith, has.0.0))
IsWord-printed (Hex bytes) plain has = IsWord-hex_word bytes has

-- printed tokens are words for the tokens, which a line can have
pub AreWordsFor-printed : (tokens : List Token) → are_plain tokens ≡ true
    → AllByRecursion HasWord tokens → AreWordsFor (map printed_token tokens) tokens
AreWordsFor-printed [] plain have = tt
AreWordsFor-printed (token ∷ tokens) plain have =
    let parts = and_parts (is_plain token) (are_plain tokens) plain in
    (IsWordFor-printed token parts.0 have.0, AreWordsFor-printed tokens parts.1 have.1)

pub AreWords-printed : (tokens : List Token) → are_plain tokens ≡ true
    → AllByRecursion HasWord tokens → AllByRecursion IsWord (map printed_token tokens)
AreWords-printed [] plain have = tt
AreWords-printed (token ∷ tokens) plain have =
    let parts = and_parts (is_plain token) (are_plain tokens) plain in
    (IsWord-printed token parts.0 have.0, AreWords-printed tokens parts.1 have.1)

-- plain tokens, and more of them
pub are_plain-append : (a b : List Token) → are_plain a ≡ true → are_plain b ≡ true
    → are_plain (a ++ b) ≡ true
are_plain-append [] b first second = second
are_plain-append (token ∷ a) b first second =
    let parts = and_parts (is_plain token) (are_plain a) first in
    rw (parts.0, are_plain-append a b parts.1 second)

-- ---- what is read of a word

-- what was found, of which this was made
pub mapped : {X Y : Type 0} (make : X → Y) (found : Option X) (y : Y)
    → option_map make found ≡ Some y → (x : X) × (found ≡ Some x) × (make x ≡ y)
mapped make None y is = absurd (cc is)
mapped make (Some x) y is = (x, refl, same_Some (make x) y is)

-- words for what was found
pub same_words : {X : Type 0} (tokens : X → List Token) (words : List (List ℕ)) (found x : X)
    → Some found ≡ Some x → AreWordsFor words (tokens found) → AreWordsFor words (tokens x)
same_words tokens words found x is are =
    subst (λ y. AreWordsFor words (tokens y)) (same_Some found x is) are

-- the word is this keyword, or another word
pub by_keyword : {X : Type 0} (P : List ℕ → Type 0) (keyword word : List ℕ) (here other : Option X)
    (found : X) → (here ≡ Some found → P keyword) → (other ≡ Some found → P word)
    → cond (bytes_eq word keyword) here other ≡ Some found → P word
by_keyword P keyword word here other found says otherwise is =
    elim (cases_Bool (bytes_eq word keyword)) [
      | inl same ↦ rw ((bytes_eq-Decides word keyword).0 same) (says (rw same at is))
      | inr isnt ↦ otherwise (rw isnt at is)
    ]

-- ---- a fact about lists of words, by a word for each token

abbrev pub OfEach : List Token → (List (List ℕ) → Type 0) → Type 0
OfEach [] P = P []
OfEach (token ∷ tokens) P =
    (word : List ℕ) → IsWordFor word token → OfEach tokens (λ words. P (word ∷ words))

pub of_each : (tokens : List Token) (P : List (List ℕ) → Type 0) → OfEach tokens P
    → (words : List (List ℕ)) → AreWordsFor words tokens → P words
of_each [] P p [] are = p
of_each (token ∷ tokens) P p (word ∷ words) are =
    of_each tokens (λ ws. P (word ∷ ws)) (p word are.0) words are.1
of_each _ P p _ are = absurd are

-- the same, where more tokens follow
abbrev pub OfEachAnd : List Token → List Token → (List (List ℕ) → Type 0) → Type 0
OfEachAnd [] more P = (words : List (List ℕ)) → AreWordsFor words more → P words
OfEachAnd (token ∷ tokens) more P =
    (word : List ℕ) → IsWordFor word token → OfEachAnd tokens more (λ words. P (word ∷ words))

pub of_each_and : (tokens more : List Token) (P : List (List ℕ) → Type 0) → OfEachAnd tokens more P
    → (words : List (List ℕ)) → AreWordsFor words (tokens ++ more) → P words
of_each_and [] more P p words are = p words are
of_each_and (token ∷ tokens) more P p [] are = absurd are
of_each_and (token ∷ tokens) more P p (word ∷ words) are =
    of_each_and tokens more (λ ws. P (word ∷ ws)) (p word are.0) words are.1
