-- The hex digits by cases are those that `hex` and `percent_encoding` read.
use Rattle.std.proofs.Common.{◌≡◌, ℕ, ◌<◌, ◌≤◌, Bool, true, cond, not, ◌||◌}
use Rattle.std.proofs.Common.{eqb, Option, Some, None, refl, sym, ap, ◌∙◌, inl}
use Rattle.std.proofs.Common.{inr, arith}
use Rattle.std.specs.Char.{digit_char, digit_value, is_digit}
use Rattle.std.proofs.lemmas.Bool.{agree_below, agree_below_at, cases_Bool, cases_lt, eqb-true}
use Rattle.std.proofs.lemmas.Bool.{ltb-true, lt-ltb, or_cases}
use Rattle.std.proofs.lemmas.Bool.Decides.{nat_tests}
use Rattle.hex.specs.Hex.{hex_digit_value}
use Rattle.tokens.specs.Escapes.{capital_digit}
use Rattle.tokens.specs.Grammar.{IsHexDigit}

-- tests that hold of each of the sixteen values, or of each byte below 128
same_value : (f : ℕ → ℕ) → agree_below (λ v. eqb (f v) v) (λ v. true) 16 ≡ true → (v : ℕ) → v < 16
    → f v ≡ v
same_value f all v small =
    eqb-true (f v) v (agree_below_at (λ k. eqb (f k) k) (λ k. true) 16 v all small)

-- ---- as `percent_encoding` reads them

pub digit_value-from : (c v : ℕ) → IsHexDigit c v → digit_value c ≡ v
digit_value-from c v (small, inl capital) =
    ap digit_value capital ∙ same_value (λ k. digit_value (capital_digit k)) refl v small
digit_value-from c v (small, inr lower) =
    ap digit_value lower ∙ same_value (λ k. digit_value (digit_char k)) refl v small

pub is_digit-from : (c v : ℕ) → IsHexDigit c v → is_digit c 16 ≡ true
is_digit-from c v is = lt-ltb (digit_value c) 16 (omega (arith, digit_value-from c v is, is.0))

-- no byte beyond `z` is a digit
far : (c : ℕ) → 128 ≤ c → digit_value c ≡ 36
far c large = grind (arith, nat_tests)

-- the digit of a byte's value is that byte
abbrev is_own_digit : ℕ → Bool
is_own_digit c =
    not (is_digit c 16) || eqb c (capital_digit (digit_value c))
    || eqb c (digit_char (digit_value c))

pub IsHexDigit-is_digit : (c : ℕ) → is_digit c 16 ≡ true → IsHexDigit c (digit_value c)
IsHexDigit-is_digit c is =
    let value : digit_value c < 16 = ltb-true (digit_value c) 16 is in
    elim (cases_lt c 128) [
      | inl near ↦
          let own = agree_below_at is_own_digit (λ k. true) 128 c refl near in
          elim (or_cases (eqb c (capital_digit (digit_value c)))
          (eqb c (digit_char (digit_value c))) (rw is at own)) [
            | inl capital ↦ (value, inl (eqb-true c (capital_digit (digit_value c)) capital))
            | inr lower ↦ (value, inr (eqb-true c (digit_char (digit_value c)) lower))
          ]
      | inr beyond ↦ absurd (omega (arith, far c beyond))
    ]

-- ---- as `hex` reads them

-- a value that was found, or one that no digit has
abbrev value_or : Option ℕ → ℕ
value_or None = 16
value_or (Some v) = v

found_from : (found : Option ℕ) (v : ℕ) → v < 16 → value_or found ≡ v → found ≡ Some v
found_from None v small is = absurd (omega (arith, is))
found_from (Some w) v small is = ap (λ (k : ℕ). Some k) is

pub hex_digit_value-from : (c v : ℕ) → IsHexDigit c v → hex_digit_value c ≡ Some v
hex_digit_value-from c v (small, inl capital) =
    ap hex_digit_value capital
    ∙ found_from (hex_digit_value (capital_digit v)) v small
    (same_value (λ k. value_or (hex_digit_value (capital_digit k))) refl v small)
hex_digit_value-from c v (small, inr lower) =
    ap hex_digit_value lower
    ∙ found_from (hex_digit_value (digit_char v)) v small
    (same_value (λ k. value_or (hex_digit_value (digit_char k))) refl v small)

-- `hex` reads no other byte
abbrev reads_alike : ℕ → Bool
reads_alike c = eqb (value_or (hex_digit_value c)) (cond (is_digit c 16) (digit_value c) 16)

hex_far : (c v : ℕ) → hex_digit_value c ≡ Some v → c < 128
hex_far c v is = grind (arith)

hex_small : (c v : ℕ) → hex_digit_value c ≡ Some v → v < 16
hex_small c v is = grind (arith)

pub IsHexDigit-hex_digit_value : (c v : ℕ) → hex_digit_value c ≡ Some v → IsHexDigit c v
IsHexDigit-hex_digit_value c v is =
    let alike =
    eqb-true (value_or (hex_digit_value c)) (cond (is_digit c 16) (digit_value c) 16)
    (agree_below_at reads_alike (λ k. true) 128 c refl (hex_far c v is)) in
    let value : v ≡ cond (is_digit c 16) (digit_value c) 16 = sym (ap value_or is) ∙ alike in
    elim (cases_Bool (is_digit c 16)) [
      | inl digit ↦ let same = rw digit at value in rw same (IsHexDigit-is_digit c digit)
      | inr none ↦
          let beyond : v ≡ 16 = rw none at value in absurd (omega (arith, beyond, hex_small c v is))
    ]
