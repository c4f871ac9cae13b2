use Rattle.std.proofs.Common.{◌≡◌, ◌<◌, ◌++◌, ℕ, List, Option, length, ◌≤◌, replicate, get_or, ap}
use Rattle.std.proofs.Common.{◌∙◌}
use Rattle.std.specs.List.{flat_map}
use Rattle.std.proofs.lemmas.List.{take_all}
use Rattle.schedule.specs.declared.command.Command.{Command}
use Rattle.schedule.specs.Texts.{federation_line, printed_line, schedule_text}
use Rattle.schedule.specs.Plans.{plan_of}
use Rattle.schedule.proofs.PrintedLines.{plan_of-schedule_text, flat_map_line-more}
use Rattle.schedule.proofs.print_schedule.print.Goals as goal

-- all lines were printed
pub returns-clause-text : goal.returns-clause-text
unfolding schedule_text
returns-clause-text c =
    let s = c.args.schedule.now in
    let past : length s.lines ≤ c.loop-line.line-index =
    rw (← c.lines-line-items.ensures.value) c.loop-line-test.false in
    c.loop-line.invariant
    ∙ ap (λ (said : List (Option Command)). replicate s.skipped 10 ++ federation_line s.members
    ++ flat_map printed_line said) (take_all c.loop-line.line-index s.lines past)

pub returns-clause-again : goal.returns-clause-again
returns-clause-again c =
    ap plan_of (returns-clause-text c)
    ∙ plan_of-schedule_text c.args.schedule.now c.lines-line-items.ensures.in_range

-- one line more was printed
pub loop-line-preserved : goal.loop-line-preserved
loop-line-preserved c =
    let s = c.args.schedule.now in
    let i = c.loop-line.line-index in
    let within : i < length s.lines =
    rw (← c.lines-line-items.ensures.value) c.loop-line-test.true in
    let line = c.line-item.result in
    let is : line ≡ get_or s.lines i line =
    rw (← c.lines-line-items.ensures.value) c.line-item.is in
    c.in_ok-push_line.ensures
    ∙ ap (λ (t : List ℕ). t ++ printed_line line) c.loop-line.invariant
    ∙ flat_map_line-more (replicate s.skipped 10 ++ federation_line s.members) s.lines i line
    within is
