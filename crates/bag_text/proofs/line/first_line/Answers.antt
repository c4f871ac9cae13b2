use Rattle.std.proofs.Common.{sym}
use Rattle.bag_text.specs.Lines.{lines_of}
use Rattle.bag_text.proofs.LineLaws.{lines_of-nil, lines_of-first, lines_of-last, starts-at_first}
use Rattle.bag_text.proofs.line.first_line.Goals as goal

pub after_end-requires : goal.after_end-requires
after_end-requires c =
    rw c.split_at.ensures.back (starts-at_first c.args.text.now c.in-Some.line_len
    (sym c.in-Some.ensures))

pub returns-in-Some-clause-lines : goal.returns-in-Some-clause-lines
returns-in-Some-clause-lines c =
    let following = rw c.split_at.ensures.back at c.after_end.ensures.lines in
    rw c.split_at.ensures.front (lines_of-first c.args.text.now c.in-Some.line_len
    (lines_of c.after_end.result.now) (sym c.in-Some.ensures) following)

pub returns-in-None-clause-lines : goal.returns-in-None-clause-lines
returns-in-None-clause-lines c =
    rw lines_of-nil (lines_of-last c.args.text.now c.requires (sym c.in-None.ensures))
