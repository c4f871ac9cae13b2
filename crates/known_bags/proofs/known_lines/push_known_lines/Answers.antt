use Rattle.std.proofs.Common.{◌∙◌, sym}
use Rattle.known_bags.proofs.Lists.{next_line}
use Rattle.known_bags.proofs.known_lines.push_known_lines.Goals as goal

pub loop-line-preserved : goal.loop-line-preserved
loop-line-preserved c =
    next_line c.args.text.now c.loop-line.rest.now c.in-Some.line.now c.in-Some.after.now
    c.loop-line.number c.args.bags.now.items c.loop-line.bags.items c.push_line.new.bags.items
    c.loop-line.invariant c.in-Some.ensures.value c.in-Some.ensures.shorter
    (sym c.in_ok-push_line.ensures.is ∙ c.if-not-branch.false) c.in_ok-push_line.ensures.known
