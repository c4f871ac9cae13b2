-- The words that are printed: each has a byte, and none has a space or a control.
use Rattle.std.proofs.Common.{◌≡◌, ℕ, suc, ◌+◌, ◌/◌, ◌%◌, ◌^◌, ◌<◌, Bool, true, ◌&&◌, ltb, List, []}
use Rattle.std.proofs.Common.{◌∷◌, length, get_or, All, refl, arith}
use Rattle.std.specs.Prelude.{codes}
use Rattle.std.specs.Fmt.{decimal}
use Rattle.std.proofs.lemmas.Bool.{and_parts, ltb-true, ne_eqb, agree_below_at}
use Rattle.std.proofs.lemmas.Fmt.{decimal_nonempty, decimal_by_steps}
use Rattle.std.proofs.lemmas.List.Elements.{All-nil, All-cons, All-push}
use Rattle.hex.specs.Hex.{lower_digits, encode_with, encode_lower, IsBytes}
use Rattle.tokens.specs.Escapes.{escaped_text}
use Rattle.schedule.specs.Tokens.{hex_word}
use Rattle.schedule.specs.inner.Printed.{IsWord}
use Rattle.tokens.proofs.EscapeLemmas.{IsAbove, All-escaped, length-escaped}

-- the same as a test, which computes on a word that is written out
abbrev pub all_above : List ℕ → Bool
all_above [] = true
all_above (b ∷ bs) = ltb 32 b && all_above bs

All-from_all_above : (bytes : List ℕ) → all_above bytes ≡ true → All IsAbove bytes
All-from_all_above [] h = All-nil IsAbove
All-from_all_above (b ∷ bs) h =
    let parts = and_parts (ltb 32 b) (all_above bs) h in
    All-cons IsAbove b bs (ltb-true 32 b parts.0) (All-from_all_above bs parts.1)

-- a word that is written out
pub IsWord-computed : (word : List ℕ) → (ltb 0 (length word) && all_above word) ≡ true → IsWord word
IsWord-computed word h =
    let parts = and_parts (ltb 0 (length word)) (all_above word) h in
    (ltb-true 0 (length word) parts.0, All-from_all_above word parts.1)

-- a number
pub IsWord-decimal : (n : ℕ) → n < 2 ^ 64 → IsWord (decimal n)
IsWord-decimal n fits = (
  decimal_nonempty n fits,
  decimal_by_steps (λ k digits. All IsAbove digits)
      (λ k small. All-cons IsAbove (48 + k) [] (omega arith) (All-nil IsAbove))
      (λ k digits large front. All-push IsAbove digits (48 + k % 10) front (omega arith))
      n fits,
)

-- a name or a path
pub IsWord-escaped : (text : List ℕ) → 0 < length text → IsWord (escaped_text text)
IsWord-escaped text some = (length-escaped text some, All-escaped text)

-- each hex digit
above_from_digit : (d : ℕ) → d < 16 → IsAbove (get_or lower_digits d 0)
above_from_digit d small =
    ltb-true 32 (get_or lower_digits d 0)
    (agree_below_at (λ k. ltb 32 (get_or lower_digits k 0)) (λ k. true) 16 d refl small)

All-encode_lower : (bytes : List ℕ) → IsBytes bytes → All IsAbove (encode_lower bytes)
unfolding encode_with
All-encode_lower [] fits = All-nil IsAbove
All-encode_lower (b ∷ bs) fits =
    let byte : b < 256 = fits 0 in
    All-cons IsAbove (get_or lower_digits (b / 16) 0)
    (get_or lower_digits (b % 16) 0 ∷ encode_lower bs) (above_from_digit (b / 16) (omega arith))
    (All-cons IsAbove (get_or lower_digits (b % 16) 0) (encode_lower bs)
    (above_from_digit (b % 16) (omega arith)) (All-encode_lower bs (λ i. fits (suc i))))

-- some bytes are no `-`
pub hex_word-some : (bytes : List ℕ) → 0 < length bytes → hex_word bytes ≡ encode_lower bytes
hex_word-some bytes some = rw (ne_eqb (length bytes) 0 (λ e. omega arith))

length-encode_lower : (bytes : List ℕ) → 0 < length bytes → 0 < length (encode_lower bytes)
unfolding encode_with
length-encode_lower [] some = absurd (omega arith)
length-encode_lower (b ∷ bs) some = omega arith

-- bytes
pub IsWord-hex_word : (bytes : List ℕ) → IsBytes bytes → IsWord (hex_word bytes)
IsWord-hex_word [] fits = IsWord-computed (codes "-") refl
IsWord-hex_word (b ∷ bs) fits =
    rw (hex_word-some (b ∷ bs) (omega arith))
    (length-encode_lower (b ∷ bs) (omega arith), All-encode_lower (b ∷ bs) fits)
