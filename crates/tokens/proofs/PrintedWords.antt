-- What is printed as a word is parsed as the same again.
use Rattle.std.proofs.Common.{◌≡◌, ℕ, ◌^◌, ◌<◌, ◌≤◌, true, List, Some, refl, ap, ◌∙◌, rules, arith}
use Rattle.std.specs.Str.{IsUtf8, is_utf8, all_ascii_digits}
use Rattle.std.specs.Fmt.{decimal}
use Rattle.std.proofs.lemmas.Fmt.{decimal_nonempty, digits_decimal, digits_value-decimal}
use Rattle.std.proofs.lemmas.Str.{is_utf8-from_IsUtf8}
use Rattle.std.proofs.lemmas.Str.Parse.{IsNumeralModel, numerals_by_fold}
use Rattle.percent_encoding.specs.Percent.{percent_decode}
use Rattle.percent_encoding.proofs.PercentLemmas.{round_trip}
use Rattle.tokens.specs.declared.escape.TheConstants.{ESCAPED}
use Rattle.tokens.specs.Words.{value_after, number_in, text_of}
use Rattle.tokens.specs.Escapes.{escaped_text}
use Rattle.tokens.proofs.NumberLemmas.{number_in-digits}
use Rattle.tokens.proofs.EscapeLemmas.{escaped_text-is}
use Rattle.tokens.proofs.TextLemmas.{text_of-utf8}
use Rattle.tokens.proofs.Utf8Lemmas.{IsByte-from_utf8}

-- `value_after 0` is what decimal digits say
numerals : IsNumeralModel (λ digits. all_ascii_digits digits ≡ true) (value_after 0)
numerals = numerals_by_fold _ (search rules) value_after (search rules)

-- a number
pub number_in-decimal : (low high n : ℕ) → low ≤ n → n ≤ high → high < 2 ^ 64
    → number_in low high (decimal n) ≡ Some n
number_in-decimal low high n least most fits =
    let value : value_after 0 (decimal n) ≡ n = digits_value-decimal numerals n (omega arith) in
    cc (
      number_in-digits low high (decimal n) (decimal_nonempty n (omega arith))
          (digits_decimal numerals n (omega arith)) (omega (arith, value)) (omega (arith, value)),
      value,
    )

-- a path
pub text_of-escaped : (text : List ℕ) → IsUtf8 text → text_of (escaped_text text) ≡ Some text
text_of-escaped text utf8 =
    let bytes = IsByte-from_utf8 text utf8 in
    let again : percent_decode (escaped_text text) ≡ text =
    rw (escaped_text-is text bytes) (round_trip ESCAPED text refl bytes) in
    text_of-utf8 (escaped_text text) (ap is_utf8 again ∙ is_utf8-from_IsUtf8 text utf8)
    ∙ ap (λ (t : List ℕ). Some t) again
