use Rattle.std.proofs.Common.{◌<◌, length, sym, ◌∙◌, arith}
use Rattle.std.proofs.lemmas.List.{take_rest}
use Rattle.std.proofs.lemmas.Bool.{eqb-false}
use Rattle.tokens.proofs.LineLemmas.{lines_before_end, lines_without_end}
use Rattle.tokens.proofs.line.first_line.Goals as goal

pub returns-in-Some-clause-value : goal.returns-in-Some-clause-value
returns-in-Some-clause-value c =
    rw (c.without_carriage_return.ensures, take_rest)
    (lines_before_end c.args.text.now c.in-Some.end (sym c.line_end.ensures ∙ c.in-Some.is))

pub returns-in-None-clause-value : goal.returns-in-None-clause-value
returns-in-None-clause-value c =
    let some : 0 < length c.args.text.now =
    omega (
      arith,
      eqb-false (length c.args.text.now) 0
          (sym c.is_empty.ensures ∙ c.if-is_empty.false),
    ) in
    lines_without_end c.args.text.now (sym c.line_end.ensures ∙ c.in-None.is) some
