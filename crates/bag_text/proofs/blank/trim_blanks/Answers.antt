use Rattle.std.proofs.Common.{sym, ◌∙◌}
use Rattle.bag_text.proofs.BlankLaws.{trim_blanks-push, trim_blanks-other, trim_blanks-none}
use Rattle.bag_text.proofs.blank.trim_blanks.Goals as goal

pub loop-last-preserved : goal.loop-last-preserved
loop-last-preserved c =
    cc (
      c.in-Some.ensures.cases.0,
      trim_blanks-push c.in-Some.front.now c.in-Some.last.now (sym c.if-not-is_blank.ensures),
    )

pub returns-then-not-is_blank : goal.returns-then-not-is_blank
returns-then-not-is_blank c =
    cc (
      c.in-Some.ensures.cases.0,
      trim_blanks-other c.in-Some.front.now c.in-Some.last.now (sym c.if-not-is_blank.ensures),
    )

pub returns : goal.returns
returns c = sym (trim_blanks-none c.loop-last.rest.now c.in_default.ensures.cases)
    ∙ c.loop-last.invariant
