-- Escapes and hex by cases are those that are read.
use Rattle.std.proofs.Common.{◌≡◌, ℕ, ◌+◌, ◌*◌, true, false, eqb, ◌&&◌, List, []}
use Rattle.std.proofs.Common.{◌∷◌, length, Option, Some, None, Result, Ok, Err, refl, sym, ap, ◌∙◌}
use Rattle.std.proofs.Common.{arith}
use Rattle.std.specs.Char.{digit_value, is_digit}
use Rattle.std.proofs.lemmas.Bool.{false_from_ne_true, cond_both, and_parts, eqb-true}
use Rattle.hex.specs.declared.error.FromHexError.{FromHexError}
use Rattle.hex.specs.Hex.{◌>>=◌, hex_digit_value, digit_or_error, value_at, pair_value}
use Rattle.hex.specs.Hex.{decode_pairs, decode_of}
use Rattle.hex.proofs.HexLemmas.{decode_of-even, decode_of-ok}
use Rattle.percent_encoding.specs.Percent.{percent_decode, is_escape}
use Rattle.tokens.specs.Grammar.{IsHexDigit, AreHexDigitsOf, none, pair, BeginsEscape, Unescapes}
use Rattle.tokens.specs.Grammar.{end, escape, itself}
use Rattle.tokens.proofs.HexDigits.{digit_value-from, is_digit-from, IsHexDigit-is_digit}
use Rattle.tokens.proofs.HexDigits.{hex_digit_value-from, IsHexDigit-hex_digit_value}

-- ---- escapes

is_escape-from : (high low h l : ℕ) → IsHexDigit high h → IsHexDigit low l
    → is_escape 37 high low ≡ true
is_escape-from high low h l high_is low_is =
    rw (is_digit-from high h high_is, is_digit-from low l low_is) refl

percent_decode-escape : (high low h l : ℕ) (rest : List ℕ) → IsHexDigit high h → IsHexDigit low l
    → percent_decode (37 ∷ high ∷ low ∷ rest) ≡ (16 * h + l) ∷ percent_decode rest
unfolding percent_decode
percent_decode-escape high low h l rest high_is low_is =
    rw (
      is_digit-from high h high_is,
      is_digit-from low l low_is,
      digit_value-from high h high_is,
      digit_value-from low l low_is,
    ) refl

-- what is an escape
parts_of_escape : (b high low : ℕ) (rest : List ℕ) → is_escape b high low ≡ true
    → (b ≡ 37) × IsHexDigit high (digit_value high) × IsHexDigit low (digit_value low)
parts_of_escape b high low rest is =
    let outer = and_parts (eqb b 37 && is_digit high 16) (is_digit low 16) is in
    let inner = and_parts (eqb b 37) (is_digit high 16) outer.0 in
    (eqb-true b 37 inner.0, IsHexDigit-is_digit high inner.1, IsHexDigit-is_digit low outer.1)

no_escape : (b high low : ℕ) (rest : List ℕ) → ¬ BeginsEscape (b ∷ high ∷ low ∷ rest)
    → is_escape b high low ≡ false
no_escape b high low rest isnt =
    false_from_ne_true (is_escape b high low)
    (λ is. let parts = parts_of_escape b high low rest is in
    isnt (high, low, digit_value high, digit_value low, rest, rw parts.0 refl, parts.1, parts.2))

percent_decode-itself : (b : ℕ) (rest : List ℕ) → ¬ BeginsEscape (b ∷ rest)
    → percent_decode (b ∷ rest) ≡ b ∷ percent_decode rest
unfolding percent_decode
percent_decode-itself b [] isnt = refl
percent_decode-itself b (c ∷ []) isnt = refl
percent_decode-itself b (high ∷ low ∷ rest) isnt = rw (no_escape b high low rest isnt) refl

pub percent_decode-from : (word text : List ℕ) → Unescapes word text → percent_decode word ≡ text
unfolding percent_decode
percent_decode-from _ _ (end word text is gives) = rw (is, gives) refl
percent_decode-from _ _ (escape word text high low h l rest others is high_is low_is more gives) =
    rw (is, gives, ← percent_decode-from rest others more)
    (percent_decode-escape high low h l rest high_is low_is)
percent_decode-from _ _ (itself word text byte rest others is isnt more gives) =
    rw (is, gives, ← percent_decode-from rest others more)
    (percent_decode-itself byte rest (rw is at isnt))

-- fewer than three bytes are no escape
too_short : (b : ℕ) → ¬ BeginsEscape (b ∷ [])
too_short b is = cc is.5

still_too_short : (b c : ℕ) → ¬ BeginsEscape (b ∷ c ∷ [])
still_too_short b c is = cc is.5

-- an escape that is read
escape_read : (b high low : ℕ) (rest : List ℕ) → BeginsEscape (b ∷ high ∷ low ∷ rest)
    → is_escape b high low ≡ true
escape_read b high low rest is =
    let byte : b ≡ 37 = cc is.5 in
    let first : high ≡ is.0 = cc is.5 in
    let second : low ≡ is.1 = cc is.5 in
    rw (byte, first, second) (is_escape-from is.0 is.1 is.2 is.3 is.6 is.7)

pub Unescapes-percent_decode : (word : List ℕ) → Unescapes word (percent_decode word)
unfolding percent_decode
Unescapes-percent_decode [] = end _ _ refl refl
Unescapes-percent_decode (b ∷ []) =
    itself _ _ b [] [] refl (too_short b) (end _ _ refl refl) refl
Unescapes-percent_decode (b ∷ c ∷ []) =
    itself _ _ b (c ∷ []) (c ∷ []) refl (still_too_short b c) (Unescapes-percent_decode (c ∷ []))
    refl
Unescapes-percent_decode (b ∷ high ∷ low ∷ rest) =
    cond_both (is_escape b high low) _ _ (Unescapes (b ∷ high ∷ low ∷ rest))
    (λ is. let parts = parts_of_escape b high low rest is in
    escape _ _ high low (digit_value high) (digit_value low) rest (percent_decode rest)
    (rw parts.0 refl) parts.1 parts.2 (Unescapes-percent_decode rest) refl)
    (λ kept. itself _ _ b (high ∷ low ∷ rest) (percent_decode (high ∷ low ∷ rest)) refl
    (λ is. cc (kept, escape_read b high low rest is))
    (Unescapes-percent_decode (high ∷ low ∷ rest)) refl)

-- ---- hex

bind_ok : {A B : Type 0} (found : Result A FromHexError) (step : A → Result B FromHexError) (b : B)
    → (found >>= step) ≡ Ok b → (a : A) × (found ≡ Ok a) × (step a ≡ Ok b)
bind_ok (Err e) step b is = absurd (cc is)
bind_ok (Ok a) step b is = (a, refl, is)

-- a digit that is read
digit_found : (c i : ℕ) (found : Option ℕ) (v : ℕ) → digit_or_error c i found ≡ Ok v
    → found ≡ Some v
digit_found c i None v is = absurd (cc is)
digit_found c i (Some w) v is = cc is

digit-read : (c i v : ℕ) → value_at c i ≡ Ok v → IsHexDigit c v
digit-read c i v is = IsHexDigit-hex_digit_value c v (digit_found c i (hex_digit_value c) v is)

value_at-from : (c i v : ℕ) → IsHexDigit c v → value_at c i ≡ Ok v
value_at-from c i v is = ap (digit_or_error c i) (hex_digit_value-from c v is)

decode_pairs-from : (i : ℕ) (word bytes : List ℕ) → AreHexDigitsOf word bytes
    → decode_pairs i word ≡ Ok bytes
unfolding decode_pairs
decode_pairs-from i _ _ (none word bytes is gives) = rw (is, gives) refl
decode_pairs-from i _ _ (pair word bytes high low h l digits others is high_is low_is more gives) =
    rw (
      is,
      gives,
      value_at-from high i h high_is,
      value_at-from low (i + 1) l low_is,
      decode_pairs-from (i + 2) digits others more,
    ) (ap (λ (b : ℕ). Ok (b ∷ others)) (omega arith))

even_digits : (word bytes : List ℕ) → AreHexDigitsOf word bytes → length word ≡ 2 * length bytes
even_digits _ _ (none word bytes is gives) = rw (is, gives) refl
even_digits _ _ (pair word bytes high low h l digits others is high_is low_is more gives) =
    rw (is, gives) (omega (arith, even_digits digits others more))

pub decode_of-from : (word bytes : List ℕ) → AreHexDigitsOf word bytes → decode_of word ≡ Ok bytes
decode_of-from word bytes are =
    decode_of-even word (omega (arith, even_digits word bytes are))
    ∙ decode_pairs-from 0 word bytes are

AreHexDigitsOf-decode_pairs : (i : ℕ) (word bytes : List ℕ) → decode_pairs i word ≡ Ok bytes
    → AreHexDigitsOf word bytes
unfolding decode_pairs
AreHexDigitsOf-decode_pairs i [] bytes is = none _ _ refl (cc is)
AreHexDigitsOf-decode_pairs i (digit ∷ []) bytes is = absurd (cc is)
AreHexDigitsOf-decode_pairs i (high ∷ low ∷ digits) bytes is =
    let byte = bind_ok (pair_value high low i) _ bytes is in
    let h = bind_ok (value_at high i) _ byte.0 byte.1 in
    let l = bind_ok (value_at low (i + 1)) _ byte.0 h.2 in
    let others = bind_ok (decode_pairs (i + 2) digits) _ bytes byte.2 in
    let sum : h.0 * 16 + l.0 ≡ byte.0 = cc l.2 in
    let value : byte.0 ≡ 16 * h.0 + l.0 = omega arith in
    pair _ _ high low h.0 l.0 digits others.0 refl (digit-read high i h.0 h.1)
    (digit-read low (i + 1) l.0 l.1)
    (AreHexDigitsOf-decode_pairs (i + 2) digits others.0 others.1) (cc (value, others.2))

pub AreHexDigitsOf-decode_of : (word bytes : List ℕ) → decode_of word ≡ Ok bytes
    → AreHexDigitsOf word bytes
AreHexDigitsOf-decode_of word bytes is =
    AreHexDigitsOf-decode_pairs 0 word bytes
    (sym (decode_of-even word (decode_of-ok word bytes is).0) ∙ is)
