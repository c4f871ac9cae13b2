use Rattle.std.proofs.Common.{◌∙◌}
use Rattle.std.proofs.KnownBytes.{Appends-nil}
use Rattle.catch_up.proofs.Reports.{no_line, its_line}
use Rattle.catch_up.proofs.rounds.write_unless_known.Goals as goal

pub returns-then-known-clause-ok : goal.returns-then-known-clause-ok
returns-then-known-clause-ok g c =
    rw (no_line c.args.known.now c.if-known.true)
    (Appends-nil (g.W.CountedWrite.contents c.args.output.now))

pub returns-clause-ok : goal.returns-clause-ok
returns-clause-ok g c =
    rw (its_line c.args.known.now c.if-known.false)
    (rw (c.as_str.ensures.value ∙ c.in_ok-line.ensures) at c.say.ensures.ok)

pub returns-clause-err : goal.returns-clause-err
returns-clause-err g c =
    rw (its_line c.args.known.now c.if-known.false)
    (rw (c.as_str.ensures.value ∙ c.in_ok-line.ensures) at c.say.ensures.part)
