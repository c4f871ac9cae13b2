use Rattle.std.proofs.Common.{◌≡◌, length}
use Rattle.bag_text.specs.Readers.{trim_blanks}
use Rattle.bag_text.proofs.blank.trim_blanks.Given as goal

abbrev pub invariant-loop-last : goal.invariant-loop-last
invariant-loop-last l = trim_blanks l.rest ≡ trim_blanks l.text

abbrev pub decreases-loop-last : goal.decreases-loop-last
decreases-loop-last l = length l.rest
