use Rattle.std.proofs.Common.{◌∙◌, sym}
use Rattle.deposit_list.proofs.Lists.{next_line, other_line}
use Rattle.deposit_list.proofs.deposit_lines.deposits_in.Goals as goal

pub loop-line-preserved : goal.loop-line-preserved
loop-line-preserved c =
    let is = sym c.in_ok-push_line.ensures.is ∙ c.if-not-branch.false in
    next_line c.args.text.now c.loop-line.rest.now c.in-Some.line.now c.in-Some.after.now
    c.loop-line.number c.loop-line.listed c.push_line.new.listed
    c.loop-line.invariant c.in-Some.ensures.value c.in-Some.ensures.shorter
    is (c.in_ok-push_line.ensures.pushed c.if-not-branch.false)

pub returns-then-not-branch : goal.returns-then-not-branch
returns-then-not-branch c =
    other_line c.args.text.now c.loop-line.rest.now c.in-Some.line.now c.in-Some.after.now
    c.loop-line.number c.loop-line.listed c.loop-line.invariant c.in-Some.ensures.value
    (sym c.in_ok-push_line.ensures.is ∙ c.if-not-branch.true)
