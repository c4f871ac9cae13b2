use Rattle.std.proofs.Common.{refl, sym}
use Rattle.bag_text.proofs.LineLaws.{lines_of-empty}
use Rattle.bag_text.proofs.DeclarationLaws.{lines_of-more}
use Rattle.bag_text.proofs.parse_declaration.declared.Goals as goal

pub returns-then-is_empty-clause-exact : goal.returns-then-is_empty-clause-exact
returns-then-is_empty-clause-exact c =
    rw (lines_of-empty c.args.text.now c.if-is_empty.ensures) refl

pub returns-then-is_empty-2-clause-exact : goal.returns-then-is_empty-2-clause-exact
returns-then-is_empty-2-clause-exact c =
    rw (
      c.first_line.ensures.lines,
      sym c.in-Some.ensures,
      lines_of-empty c.first_line.result.1.now c.if-is_empty-2.ensures,
    ) refl

pub returns-then-not-is_empty-clause-exact : goal.returns-then-not-is_empty-clause-exact
returns-then-not-is_empty-clause-exact c =
    let more = lines_of-more c.first_line-2.result.1.now c.if-not-is_empty.ensures in
    rw (
      c.first_line.ensures.lines,
      sym c.in-Some.ensures,
      c.first_line-2.ensures.lines,
      sym c.in-Some-encoding_in.ensures,
      more.2,
    ) refl

pub returns-clause-exact : goal.returns-clause-exact
returns-clause-exact c =
    rw (
      c.first_line.ensures.lines,
      sym c.in-Some.ensures,
      c.first_line-2.ensures.lines,
      sym c.in-Some-encoding_in.ensures,
      lines_of-empty c.first_line-2.result.1.now c.if-not-is_empty.ensures,
    ) refl
