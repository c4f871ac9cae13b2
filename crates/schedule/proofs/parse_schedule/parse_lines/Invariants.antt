use Rattle.std.proofs.Common.{◌≡◌, ◌≤◌, ◌+◌, length, vec_len}
use Rattle.std.specs.Str.Lines.{lines}
use Rattle.schedule.specs.Plans.{later_lines}
use Rattle.schedule.proofs.PlanLemmas.{with_earlier}
use Rattle.schedule.proofs.parse_schedule.parse_lines.Given as goal

abbrev pub invariant-loop-line : goal.invariant-loop-line
invariant-loop-line l = record {
  so_far : later_lines l.first (lines l.text)
      ≡ with_earlier l.commands.items (later_lines l.number (lines l.rest));
  numbers : l.number + length l.rest ≤ l.first + length l.text;
  count : vec_len l.commands + length l.rest ≤ length l.text;
}

abbrev pub decreases-loop-line : goal.decreases-loop-line
decreases-loop-line l = length l.rest
