use Rattle.sim_stations.proofs.Named.{marked_zero, marked_past, marked_at}
use Rattle.sim_stations.proofs.datagrams.is_marked.Goals as goal

pub returns-then-number-eq0 : goal.returns-then-number-eq0
returns-then-number-eq0 c = rw (c.if-number-eq0.true, marked_zero)

pub returns-then-marks-number : goal.returns-then-marks-number
returns-then-marks-number c = rw (marked_past _ _ c.if-marks-number.true)

pub returns : goal.returns
returns c = marked_at c.args.marks.now c.args.number c.if-number-eq0.false
