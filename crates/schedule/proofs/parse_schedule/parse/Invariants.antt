use Rattle.std.proofs.Common.{◌≡◌, ◌≤◌, ◌+◌, length}
use Rattle.std.specs.Str.Lines.{lines}
use Rattle.schedule.specs.Plans.{plan_of, plan_after}
use Rattle.schedule.proofs.parse_schedule.parse.Given as goal

abbrev pub invariant-loop-line : goal.invariant-loop-line
invariant-loop-line l = record {
  so_far : plan_of l.text ≡ plan_after l.skipped (lines l.rest);
  numbers : l.skipped + length l.rest ≤ length l.text;
}

abbrev pub decreases-loop-line : goal.decreases-loop-line
decreases-loop-line l = length l.rest
