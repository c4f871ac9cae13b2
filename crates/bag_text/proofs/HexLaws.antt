-- Hex digits: which texts are of whole bytes, and which bytes they are, whatever their case.
use Rattle.std.proofs.Common.{◌≡◌, ℕ, ◌+◌, ◌*◌, ◌/◌, ◌%◌, ◌<◌, ◌==◌, Bool, true}
use Rattle.std.proofs.Common.{false}
use Rattle.std.proofs.Common.{List, [], ◌∷◌}
use Rattle.std.proofs.Common.{length, map, slice_index, Option, Some, None, Result, Ok, Err, is_ok}
use Rattle.std.proofs.Common.{refl, sym, ap, ◌∙◌, arith}
use Rattle.std.specs.Prelude.{IsTrue, ◌↔◌}
use Rattle.std.specs.Char.{is_ascii_hexdigit, to_ascii_lowercase}
use Rattle.std.specs.List.{list_all}
use Rattle.std.specs.Result.{result_unwrap_or}
use Rattle.std.specs.Str.{bytes_eq}
use Rattle.std.proofs.lemmas.Bool.{agree_below_at, eqb-true, false_from_ne_true}
use Rattle.std.proofs.lemmas.Bool.Decides.{same_from_decides}
use Rattle.std.proofs.lemmas.Slice.Eq.{bytes_eq-Decides}
use Rattle.std.proofs.lemmas.List.Sums.{AllPass-from_list_all, list_all-from_AllPass}
use Rattle.hex.specs.Hex.{IsBytes, decode_of, decode_pairs, digit_or_error, hex_digit_value}
use Rattle.hex.specs.Hex.{encode_lower, encode_with, is_hex_digit, lower_digits, pair_value}
use Rattle.hex.specs.Hex.{value_at}
use Rattle.hex.specs.Hex.{◌>>=◌}
use Rattle.hex.specs.declared.error.FromHexError.{FromHexError}
use Rattle.hex.proofs.HexLemmas.{decode_of-digits, decode_of-encode_lower, decode_of-even}
use Rattle.hex.proofs.HexLemmas.{decode_of-odd, decode_of-ok, decode_of-same}

-- ---- which texts decode

same_digits : (c : ℕ) → is_ascii_hexdigit c ≡ is_hex_digit c
same_digits c = grind (arith)

all_digits : (s : List ℕ) → list_all is_ascii_hexdigit s ≡ list_all is_hex_digit s
all_digits [] = refl
all_digits (c ∷ rest) = rw (same_digits c, all_digits rest) refl

-- digits of an even number decode, and nothing else of an even length does
pub even_digits : (s : List ℕ) → length s % 2 ≡ 0
    → list_all is_ascii_hexdigit s ≡ is_ok (decode_of s)
even_digits s even = rw (all_digits s) (go (list_all is_hex_digit s) refl (decode_of s) refl)
  where
    go : (all : Bool) → list_all is_hex_digit s ≡ all
        → (decoded : Result (List ℕ) FromHexError) → decode_of s ≡ decoded → all ≡ is_ok decoded
    go true e (Ok bytes) d = refl
    go false e (Err fault) d = refl
    go true e (Err fault) d =
        absurd (cc (d, (decode_of-digits s even (AllPass-from_list_all is_hex_digit s e)).1))
    go false e (Ok bytes) d =
        absurd (cc (e, list_all-from_AllPass is_hex_digit s (decode_of-ok s bytes d).1))

-- an odd number of bytes doesn't decode
pub odd_digits : (s : List ℕ) → (length s % 2 ≡ 0 → ⊥) → is_ok (decode_of s) ≡ false
odd_digits s odd = rw (decode_of-odd s (omega arith)) refl

-- what decodes, decodes to something
pub decodes : (s : List ℕ) → is_ok (decode_of s) ≡ true
    → decode_of s ≡ Ok (result_unwrap_or (decode_of s) [])
decodes s h = go (decode_of s) h
  where
    go : (r : Result (List ℕ) FromHexError) → is_ok r ≡ true → r ≡ Ok (result_unwrap_or r [])
    go (Ok bytes) e = refl
    go (Err fault) e = absurd (cc e)

-- ---- the text of bytes that digits decode to

-- a digit in lower case is the one of its value: a test of all bytes up to `f`, which computes
abbrev is_lowered : ℕ → Option ℕ → Bool
is_lowered c None = true
is_lowered c (Some v) = to_ascii_lowercase c == slice_index lower_digits v

digit-below : (c v : ℕ) → hex_digit_value c ≡ Some v → c < 103
digit-below c v h = grind (arith)

lower_digit : (c v : ℕ) → hex_digit_value c ≡ Some v
    → to_ascii_lowercase c ≡ slice_index lower_digits v
lower_digit c v h =
    eqb-true (to_ascii_lowercase c) (slice_index lower_digits v)
    (ap (is_lowered c) (sym h)
    ∙ agree_below_at (λ k. is_lowered k (hex_digit_value k)) (λ k. true) 103 c refl
    (digit-below c v h))

digit-small : (c v : ℕ) → hex_digit_value c ≡ Some v → v < 16
digit-small c v h = grind (arith)

-- the value of a digit that was read
digit_read : (c i : ℕ) (found : Option ℕ) (v : ℕ) → digit_or_error c i found ≡ Ok v
    → found ≡ Some v
digit_read c i (Some w) v h = cc
digit_read c i None v h = absurd cc

-- what was read before what is read after it
then_read : {X Y : Type 0} (r : Result X FromHexError) (f : X → Result Y FromHexError) (y : Y)
    → (r >>= f) ≡ Ok y → (x : X) × (r ≡ Ok x) × (f x ≡ Ok y)
then_read (Ok x) f y h = (x, refl, h)
then_read (Err e) f y h = absurd (cc h)

-- digits in lower case are the text of the bytes that they decode to
lower_pairs : (i : ℕ) (s bytes : List ℕ) → decode_pairs i s ≡ Ok bytes
    → map to_ascii_lowercase s ≡ encode_lower bytes
unfolding decode_pairs encode_with
lower_pairs i [] bytes h = let none : [] ≡ bytes = cc in rw (← none) refl
lower_pairs i (a ∷ []) bytes h = absurd (cc h)
lower_pairs i (a ∷ b ∷ rest) bytes h =
    let byte = then_read (pair_value a b i) _ bytes h in
    let high = then_read (value_at a i) _ byte.0 byte.1 in
    let low = then_read (value_at b (i + 1)) _ byte.0 high.2 in
    let others = then_read (decode_pairs (i + 2) rest) _ bytes byte.2 in
    let of_high = digit_read a i (hex_digit_value a) high.0 high.1 in
    let of_low = digit_read b (i + 1) (hex_digit_value b) low.0 low.1 in
    let whole : byte.0 ∷ others.0 ≡ bytes = cc others.2 in
    let value : high.0 * 16 + low.0 ≡ byte.0 = cc low.2 in
    let small = digit-small b low.0 of_low in
    let first : byte.0 / 16 ≡ high.0 = omega (arith) in
    let second : byte.0 % 16 ≡ low.0 = omega (arith) in
    rw (
      ← whole,
      first,
      second,
      lower_digit a high.0 of_high,
      lower_digit b low.0 of_low,
      lower_pairs (i + 2) rest others.0 others.1,
    ) refl

-- digits are the text of some bytes, whatever its case, where they decode to these bytes
pub text_of_bytes : (digits decoded bytes : List ℕ) → IsBytes bytes → decode_of digits ≡ Ok decoded
    → (map to_ascii_lowercase digits ≡ map to_ascii_lowercase (encode_lower bytes))
    ↔ (bytes ≡ decoded)
text_of_bytes digits decoded bytes are_bytes h =
    let parts = decode_of-ok digits decoded h in
    let lowered : map to_ascii_lowercase digits ≡ encode_lower decoded =
    lower_pairs 0 digits decoded (sym (decode_of-even digits parts.0) ∙ h) in
    let text : decode_of (encode_lower bytes) ≡ Ok bytes = decode_of-encode_lower bytes are_bytes in
    let twice = decode_of-ok (encode_lower bytes) bytes text in
    let lower : map to_ascii_lowercase (encode_lower bytes) ≡ encode_lower bytes =
    lower_pairs 0 (encode_lower bytes) bytes
    (sym (decode_of-even (encode_lower bytes) twice.0) ∙ text) in (
      λ same.
          let alike : encode_lower decoded ≡ encode_lower bytes = cc in
          decode_of-same (encode_lower bytes) bytes decoded text
          (cc (decode_of-encode_lower decoded parts.3)),
      λ same. cc,
    )

-- so a test of the texts is one of the bytes
pub equal_bytes : (t : Bool) (digits decoded bytes text : List ℕ) → IsBytes bytes
    → decode_of digits ≡ Ok decoded → text ≡ encode_lower bytes
    → (IsTrue t ↔ (map to_ascii_lowercase digits ≡ map to_ascii_lowercase text))
    → t ≡ bytes_eq bytes decoded
equal_bytes t digits decoded bytes text are_bytes h written test =
    let same = text_of_bytes digits decoded bytes are_bytes h in
    let said = rw written at test in
    same_from_decides t (bytes_eq bytes decoded)
    (λ yes. same.0 (said.0 yes), λ equal. said.1 (same.1 equal)) (bytes_eq-Decides bytes decoded)

-- bytes of another length are others
pub other_length : (digits decoded bytes : List ℕ) → decode_of digits ≡ Ok decoded
    → (length digits ≡ 2 * length bytes → ⊥) → bytes_eq bytes decoded ≡ false
other_length digits decoded bytes h other =
    false_from_ne_true (bytes_eq bytes decoded)
    (λ e. let same = (bytes_eq-Decides bytes decoded).0 e in
    other (rw same (decode_of-ok digits decoded h).2))
