use Rattle.std.proofs.Common.{◌≡◌, ℕ, ◌+◌, ◌≤◌, ◌-◌, List, arith, length, take, drop, length-drop}
use Rattle.std.proofs.Common.{sym, ap, ◌∙◌}
use Rattle.std.specs.Prelude.{Some}
use Rattle.std.proofs.lemmas.List.{take_all}
use Rattle.code_words.proofs.DigitRuns.{found_first, found_here, found_further, found_none}
use Rattle.code_words.proofs.DigitRuns.{found_after, run_of}
use Rattle.code_words.proofs.key_line.hidden_digits.Goals as goal

-- the bytes from a place on are all that stand there
whole : (begin : ℕ) (bytes : List ℕ)
    → run_of (take (length bytes - begin) (drop begin bytes)) ≡ run_of (drop begin bytes)
whole begin bytes =
    let all : length (drop begin bytes) ≤ length bytes - begin =
    omega (arith, length-drop begin bytes) in
    ap run_of (take_all (length bytes - begin) (drop begin bytes) all)

pub overflow_add-result : goal.overflow_add-result
overflow_add-result c =
    omega
    (arith, length-drop c.loop-begin.begin c.args.bytes.now, c.digits_before-count.ensures.within)

pub returns-then-count-ge-HIDDEN-clause-value : goal.returns-then-count-ge-HIDDEN-clause-value
returns-then-count-ge-HIDDEN-clause-value c =
    let begin = c.loop-begin.begin in
    let same : c.digits_before-count.result ≡ run_of (drop begin c.args.bytes.now) =
    c.digits_before-count.ensures.value ∙ whole begin c.args.bytes.now in
    sym
    (c.loop-begin.invariant
    ∙ (found_here begin c.args.bytes.now (omega arith)
    ∙ ap (λ count. Some (begin, begin + count)) (sym same)))

pub returns-then-count-ge-HIDDEN-clause-within : goal.returns-then-count-ge-HIDDEN-clause-within
returns-then-count-ge-HIDDEN-clause-within c = (
  omega arith,
  omega (
    arith,
    length-drop c.loop-begin.begin c.args.bytes.now,
    c.digits_before-count.ensures.within,
  ),
)

pub loop-begin-init : goal.loop-begin-init
loop-begin-init c = found_first c.args.bytes.now

pub loop-begin-preserved : goal.loop-begin-preserved
loop-begin-preserved c =
    let begin = c.loop-begin.begin in
    let same : c.digits_before-count.result ≡ run_of (drop begin c.args.bytes.now) =
    c.digits_before-count.ensures.value ∙ whole begin c.args.bytes.now in
    c.loop-begin.invariant
    ∙ (found_further begin c.args.bytes.now (omega arith)
    ∙ ap (λ count. found_after (begin + (count + 1)) c.args.bytes.now) (sym same))

pub returns-clause-value : goal.returns-clause-value
returns-clause-value c = sym (c.loop-begin.invariant ∙ found_none _ _ c.loop-begin-test.false)
