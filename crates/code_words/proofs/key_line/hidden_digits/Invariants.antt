use Rattle.std.proofs.Common.{◌≡◌, ◌-◌, length}
use Rattle.code_words.specs.Keys.{hidden_digits}
use Rattle.code_words.proofs.DigitRuns.{found_after}
use Rattle.code_words.proofs.key_line.hidden_digits.Given as goal

abbrev pub invariant-loop-begin : goal.invariant-loop-begin
invariant-loop-begin l = hidden_digits l.bytes ≡ found_after l.begin l.bytes

abbrev pub decreases-loop-begin : goal.decreases-loop-begin
decreases-loop-begin l = length l.bytes - l.begin
