use Rattle.std.proofs.Common.{sym, ◌∙◌}
use Rattle.bag_text.proofs.BlankLaws.{skip_blanks-more, skip_blanks-stops, skip_blanks-none}
use Rattle.bag_text.proofs.blank.skip_blanks.Goals as goal

pub loop-first-preserved : goal.loop-first-preserved
loop-first-preserved c =
    sym
    (skip_blanks-more c.loop-first.rest.now c.in-Some.first.now c.in-Some.after.now
    c.in-Some.ensures.cases.0 (sym c.if-not-is_blank.ensures)) ∙ c.loop-first.invariant

pub returns-then-not-is_blank : goal.returns-then-not-is_blank
returns-then-not-is_blank c =
    sym
    (skip_blanks-stops c.loop-first.rest.now c.in-Some.first.now c.in-Some.after.now
    c.in-Some.ensures.cases.0 (sym c.if-not-is_blank.ensures)) ∙ c.loop-first.invariant

pub returns : goal.returns
returns c = sym (skip_blanks-none c.loop-first.rest.now c.in_default.ensures.cases)
    ∙ c.loop-first.invariant
