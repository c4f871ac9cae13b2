use Rattle.std.proofs.Common.{◌≡◌, Some, sym, ◌∙◌, arith}
use Rattle.std.specs.Str.Lines.{lines}
use Rattle.std.proofs.lemmas.Result.{err_from_is_err_and}
use Rattle.schedule.specs.Plans.{later_line}
use Rattle.schedule.proofs.PlanLemmas.{with_earlier-more, with_earlier-fault, with_earlier-all}
use Rattle.schedule.proofs.PlanLemmas.{fault_from_ok_or}
use Rattle.schedule.proofs.parse_schedule.parse_lines.Goals as goal

pub returns-in_err-said-clause-fault : goal.returns-in_err-said-clause-fault
returns-in_err-said-clause-fault c =
    let number = c.loop-line.number in
    let front = c.loop-line.commands.items in
    let f =
    fault_from_ok_or c.in_ok-parse_line.field-0 number c.in_err-said.field-0.0
    c.in_err-said.ensures.value in
    let p =
    err_from_is_err_and c.from_residual-in_err-said.result c.from_residual-in_err-said.ensures.1 in
    let says = sym c.in_ok-parse_line.ensures ∙ f.0 in
    rw (p.1, p.2, f.1)
    (rw (c.loop-line.invariant.so_far, c.in-Some.ensures.value)
    (with_earlier-fault front number c.in-Some.line.now (lines c.in-Some.after.now) says))

pub loop-line-preserved : goal.loop-line-preserved
loop-line-preserved c = record {
  so_far =
      let number = c.loop-line.number in
      let front = c.loop-line.commands.items in
      let after = lines c.in-Some.after.now in
      let said = c.in_ok-said.said in
      let says : later_line c.in-Some.line.now ≡ Some said =
      sym c.in_ok-parse_line.ensures ∙ c.in_ok-said.ensures.ok_part in
      rw (c.loop-line.invariant.so_far, c.in-Some.ensures.value, c.in_ok-push.ensures.items)
      (with_earlier-more front number c.in-Some.line.now after said says);
  numbers = omega (arith, c.in-Some.ensures.shorter);
  count = omega (arith, c.in-Some.ensures.shorter, c.in_ok-push.ensures.len);
}

pub returns-clause-value : goal.returns-clause-value
returns-clause-value c =
    let number = c.loop-line.number in
    let front = c.loop-line.commands.items in
    rw (c.loop-line.invariant.so_far, c.in_default.ensures.value) (with_earlier-all front number)
