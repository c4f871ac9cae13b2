use Rattle.std.proofs.Common.{◌≡◌}
use Rattle.code_words.specs.ScheduleLines.{has_command_before}
use Rattle.code_words.proofs.text_lines.has_command_before.Given as goal

abbrev pub invariant-loop-left : goal.invariant-loop-left
invariant-loop-left l = has_command_before l.rest l.left ≡ has_command_before l.text l.number

abbrev pub decreases-loop-left : goal.decreases-loop-left
decreases-loop-left l = l.left
