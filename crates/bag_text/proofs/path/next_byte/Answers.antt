use Rattle.std.proofs.Common.{sym}
use Rattle.std.proofs.lemmas.List.{take_rest}
use Rattle.bag_text.proofs.PathLaws.{unescaped-escape, unescaped-other}
use Rattle.bag_text.proofs.path.next_byte.Goals as goal

pub returns-in-Some-clause-value : goal.returns-in-Some-clause-value
returns-in-Some-clause-value c =
    rw (take_rest c.args.text.now 3)
    (unescaped-escape c.args.text.now c.in-Some.byte (sym c.in-Some.ensures))

pub returns-in-None-clause-value : goal.returns-in-None-clause-value
returns-in-None-clause-value c =
    unescaped-other c.args.text.now c.in_ok-first.first.now c.in_ok-first.rest.now
    c.in_ok-first.ensures.cases.0 (sym c.in-None.ensures)
