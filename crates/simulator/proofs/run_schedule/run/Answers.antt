use Rattle.std.proofs.Common.{◌≡◌, ◌<◌, ◌≤◌, length, take, get_or}
use Rattle.world_law.specs.Worlds.{new_world, run_from}
use Rattle.world_law.proofs.Promised as laws
use Rattle.simulator.proofs.LineByLine.{run_from-none, run_from-more, run_from-all}
use Rattle.simulator.proofs.run_schedule.run.Goals as goal

pub lines-init : goal.lines-init
lines-init c =
    rw (run_from-none c.first_line-first.result (new_world c.args.schedule.now.members))
    (rw c.members.ensures at c.in_ok-federation.ensures)

pub lines-preserved : goal.lines-preserved
lines-preserved c =
    let lines = c.args.schedule.now.lines in
    let first = c.first_line-first.result in
    let w = new_world c.args.schedule.now.members in
    let within : c.lines.index < length lines =
    rw (← c.lines-line-items.ensures.value) c.lines-test.true in
    let is : c.line-item.result ≡ get_or lines c.lines.index c.line-item.result =
    rw (← c.lines-line-items.ensures.value) c.line-item.is in
    rw (run_from-more first c.lines.index w lines c.line-item.result within is)
    at (c.in_ok-federation-2.ensures (run_from first w (take c.lines.index lines))
    c.lines.invariant)

pub returns-clause-lines : goal.returns-clause-lines
returns-clause-lines c =
    let past : length c.args.schedule.now.lines ≤ c.lines.index =
    rw (← c.lines-line-items.ensures.value) c.lines-test.false in
    rw (c.new-2.ensures, c.into_lines.ensures, c.lines.invariant.lines)
    (rw (run_from-all c.args.schedule.now c.first_line-first.result c.lines.index
    c.first_line-first.ensures.value past))

pub returns-clause-agree : goal.returns-clause-agree
returns-clause-agree c = rw (returns-clause-lines c) (laws.lines_agree c.args.schedule.now)

pub returns-clause-deposited : goal.returns-clause-deposited
returns-clause-deposited c =
    rw (returns-clause-lines c) (laws.reports_were_deposited c.args.schedule.now)
