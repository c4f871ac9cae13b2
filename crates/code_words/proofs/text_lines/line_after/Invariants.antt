use Rattle.std.proofs.Common.{◌≡◌, ◌+◌, length}
use Rattle.code_words.specs.ScheduleLines.{line_at}
use Rattle.code_words.proofs.text_lines.line_after.Given as goal

abbrev pub invariant-loop-line : goal.invariant-loop-line
invariant-loop-line l = line_at l.rest (l.left + 1) ≡ line_at l.text (l.before + 1)

abbrev pub decreases-loop-line : goal.decreases-loop-line
decreases-loop-line l = length l.rest
