-- The rule of escapes is what `percent_encode` does with the code's set, and what it gives is above
-- the space.
use Rattle.std.proofs.Common.{◌≡◌, ℕ, ◌+◌, ◌-◌, ◌/◌, ◌%◌, ◌<◌, true, ltb, List, [], ◌∷◌}
use Rattle.std.proofs.Common.{length, All, refl, ap, arith, length-append}
use Rattle.std.proofs.lemmas.Bool.{cond_both, agree_below, agree_below_at}
use Rattle.std.proofs.lemmas.Bool.Decides.{nat_tests}
use Rattle.std.proofs.lemmas.List.Elements.{All-nil, All-cons, All-append, All-head, All-tail}
use Rattle.std.specs.Fmt.{digit_glyph}
use Rattle.percent_encoding.specs.AsciiSet.{should_percent_encode}
use Rattle.percent_encoding.specs.Percent.{percent_encode, percent_encode_byte, encode_byte}
use Rattle.percent_encoding.proofs.PercentLemmas.{IsByte}
use Rattle.tokens.specs.declared.escape.TheConstants.{ESCAPED}
use Rattle.tokens.specs.Escapes.{is_escaped, capital_digit, escape_of, printed_byte, escaped_text}

-- which bytes are escaped
escaped_bytes : agree_below is_escaped (should_percent_encode ESCAPED) 256 ≡ true
unfolding should_percent_encode
escaped_bytes = refl

capital_digit-is : (value : ℕ) → capital_digit value ≡ digit_glyph true value
capital_digit-is value =
    cond_both (ltb value 10) (48 + value) (65 + (value - 10))
    (λ (digit : ℕ). digit ≡ digit_glyph true value)
    (λ small. rw small refl)
    (λ large. rw large (grind (arith, nat_tests)))

escape_of-is : (byte : ℕ) → byte < 256 → escape_of byte ≡ percent_encode_byte byte
unfolding percent_encode_byte
escape_of-is byte small =
    let high : byte / 16 ≡ byte / 16 % 16 = omega arith in
    rw (capital_digit-is (byte / 16), capital_digit-is (byte % 16))
    (ap (λ (d : ℕ). 37 ∷ digit_glyph true d ∷ digit_glyph true (byte % 16) ∷ []) high)

printed_byte-is : (byte : ℕ) → byte < 256 → printed_byte byte ≡ encode_byte ESCAPED byte
printed_byte-is byte small =
    rw (
      agree_below_at is_escaped (should_percent_encode ESCAPED) 256 byte escaped_bytes small,
      escape_of-is byte small,
    ) refl

pub escaped_text-is : (text : List ℕ) → All IsByte text
    → escaped_text text ≡ percent_encode ESCAPED text
unfolding escaped_text percent_encode
escaped_text-is [] are = refl
escaped_text-is (byte ∷ bytes) are =
    rw (
      printed_byte-is byte (All-head IsByte byte bytes are),
      escaped_text-is bytes (All-tail IsByte byte bytes are),
    ) refl

-- above the space
abbrev pub IsAbove : ℕ → Type 0
IsAbove b = 32 < b

above_from_digit : (value : ℕ) → IsAbove (capital_digit value)
above_from_digit value =
    cond_both (ltb value 10) (48 + value) (65 + (value - 10)) IsAbove (λ small. omega arith)
    (λ large. omega arith)

All-printed_byte : (byte : ℕ) → All IsAbove (printed_byte byte)
All-printed_byte byte =
    cond_both (is_escaped byte) (escape_of byte) (byte ∷ []) (All IsAbove)
    (λ escapes. search (arith, All-cons, All-nil, above_from_digit))
    (λ stays. All-cons IsAbove byte [] (grind (arith, nat_tests)) (All-nil IsAbove))

pub All-escaped : (text : List ℕ) → All IsAbove (escaped_text text)
unfolding escaped_text
All-escaped [] = All-nil IsAbove
All-escaped (byte ∷ bytes) =
    All-append IsAbove (printed_byte byte) (escaped_text bytes) (All-printed_byte byte)
    (All-escaped bytes)

-- no text that isn't empty is printed as nothing
length-printed_byte : (byte : ℕ) → 0 < length (printed_byte byte)
length-printed_byte byte =
    cond_both (is_escaped byte) (escape_of byte) (byte ∷ []) (λ (bytes : List ℕ). 0 < length bytes)
    (λ escapes. omega arith) (λ stays. omega arith)

pub length-escaped : (text : List ℕ) → 0 < length text → 0 < length (escaped_text text)
unfolding escaped_text
length-escaped [] some = absurd (omega arith)
length-escaped (byte ∷ bytes) some =
    let first = length-printed_byte byte in
    omega (arith, first, length-append (printed_byte byte) (escaped_text bytes))
