use Rattle.std.proofs.lemmas.List.{take_rest}
use Rattle.bag_text.proofs.LineLaws.{lines_of-both, lines_of-end}
use Rattle.bag_text.proofs.line.after_end.Goals as goal

pub returns-in-Some-clause-lines : goal.returns-in-Some-clause-lines
returns-in-Some-clause-lines c =
    let found = c.in-Some.ensures.cases in rw found.1 (lines_of-both c.args.ended.now found.0)

pub returns-in-None-clause-lines : goal.returns-in-None-clause-lines
returns-in-None-clause-lines c =
    rw (take_rest c.args.ended.now 1)
    (lines_of-end c.args.ended.now c.requires c.in-None.ensures.cases)
