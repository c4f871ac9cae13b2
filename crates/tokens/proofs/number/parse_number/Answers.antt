use Rattle.std.proofs.Common.{◌≡◌, ◌<◌, length, sym, ◌∙◌}
use Rattle.std.proofs.Common.{arith}
use Rattle.std.proofs.lemmas.Bool.{eqb-true, eqb-false}
use Rattle.tokens.specs.Words.{value_after}
use Rattle.tokens.proofs.NumberLemmas.{number_in-empty, number_in-no_digits, number_in-beyond}
use Rattle.tokens.proofs.NumberLemmas.{number_in-below, number_in-digits, number_in-grown}
use Rattle.tokens.proofs.NumberLemmas.{value_after-read}
use Rattle.tokens.proofs.NumberLemmas.{all_ascii_digits-stopped, all_ascii_digits-read}
use Rattle.tokens.proofs.number.parse_number.Goals as goal
use Rattle.tokens.proofs.number.parse_number.Goals.{
  else-low-value-via-then-low-value+else-value-high,
}
use Rattle.tokens.proofs.number.parse_number.Goals.{else-low-value-via-else-low-value}

pub returns-then-is_empty-clause-value : goal.returns-then-is_empty-clause-value
returns-then-is_empty-clause-value c =
    sym (number_in-empty c.args.low c.args.high c.args.word.now
    (eqb-true (length c.args.word.now) 0 (sym c.is_empty.ensures ∙ c.if-is_empty.true)))

pub returns-then-not-is_ascii_digit-clause-value : goal.returns-then-not-is_ascii_digit-clause-value
returns-then-not-is_ascii_digit-clause-value c =
    let stops =
    all_ascii_digits-stopped c.loop-byte.byte-index c.args.word.now c.loop-byte-test.true
    (sym c.is_ascii_digit.ensures.value ∙ c.if-not-is_ascii_digit.true) in
    sym (number_in-no_digits c.args.low c.args.high c.args.word.now
    (c.loop-byte.invariant.digits ∙ stops))

pub returns-in_err-checked_mul-clause-value : goal.returns-in_err-checked_mul-clause-value
returns-in_err-checked_mul-clause-value c =
    cc (
      c.from_residual.ensures,
      number_in-grown c.args.low c.args.high c.loop-byte.value c.loop-byte.byte-index
          c.args.word.now c.loop-byte-test.true c.loop-byte.invariant.value
          (omega (arith, c.in_err-checked_mul.ensures)),
    )

pub returns-in_err-value-clause-value : goal.returns-in_err-value-clause-value
returns-in_err-value-clause-value c =
    cc (
      c.from_residual-in_err-value.ensures,
      number_in-grown c.args.low c.args.high c.loop-byte.value c.loop-byte.byte-index
          c.args.word.now c.loop-byte-test.true c.loop-byte.invariant.value
          (omega (arith, c.in_ok-checked_mul.ensures, c.in_err-value.ensures)),
    )

pub returns-then-value-high-clause-value : goal.returns-then-value-high-clause-value
returns-then-value-high-clause-value c =
    let word = c.args.word.now in
    let some : 0 < length word =
    omega (arith, eqb-false (length word) 0 (sym c.is_empty.ensures ∙ c.if-is_empty.false)) in
    let digits =
    c.loop-byte.invariant.digits
    ∙ all_ascii_digits-read c.loop-byte.byte-index word c.loop-byte-test.false in
    let is : value_after 0 word ≡ c.loop-byte.value =
    c.loop-byte.invariant.value
    ∙ value_after-read c.loop-byte.value c.loop-byte.byte-index word c.loop-byte-test.false in
    cc (
      number_in-digits c.args.low c.args.high word some digits (omega (arith, is))
          (omega (arith, is)),
      is,
    )

pub returns-else-low-value-clause-value : goal.returns-else-low-value-clause-value
returns-else-low-value-clause-value c =
    let word = c.args.word.now in
    let is : value_after 0 word ≡ c.loop-byte.value =
    c.loop-byte.invariant.value
    ∙ value_after-read c.loop-byte.value c.loop-byte.byte-index word c.loop-byte-test.false in
    elim c.else-low-value.branch [
      | else-low-value-via-then-low-value+else-value-high w ↦ sym
          (number_in-beyond c.args.low c.args.high word (omega (arith, is)))
      | else-low-value-via-else-low-value w ↦ sym
          (number_in-below c.args.low c.args.high word (omega (arith, is)))
    ]
