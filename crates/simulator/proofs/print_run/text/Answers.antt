use Rattle.std.proofs.Common.{◌≡◌, ◌<◌, ◌≤◌, length, get_or, ◌∙◌}
use Rattle.simulator.proofs.TextOfLines.{text_of-more, text_of-none, text_of-all}
use Rattle.simulator.proofs.print_run.text.Goals as goal

pub loop-line-init : goal.loop-line-init
loop-line-init c = c.new-text.ensures.bytes ∙ text_of-none c.args.options c.args.trace.now

pub loop-line-preserved : goal.loop-line-preserved
loop-line-preserved c =
    let lines = c.args.trace.now in
    let within : c.loop-line.line-index < length lines =
    rw (← c.lines-line-items.ensures) c.loop-line-test.true in
    let is : c.line-item.result ≡ get_or lines c.loop-line.line-index c.line-item.result =
    rw (← c.lines-line-items.ensures) c.line-item.is in
    rw (c.in_ok-push_printed.ensures.ok, c.loop-line.invariant)
    (text_of-more c.args.options lines c.loop-line.line-index c.line-item.result within is)

pub returns : goal.returns
returns c =
    let past : length c.args.trace.now ≤ c.loop-line.line-index =
    rw (← c.lines-line-items.ensures) c.loop-line-test.false in
    rw c.loop-line.invariant
    (text_of-all c.args.options c.args.trace.now c.loop-line.line-index past)
