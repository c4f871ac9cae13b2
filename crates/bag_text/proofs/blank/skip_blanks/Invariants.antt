use Rattle.std.proofs.Common.{◌≡◌, length}
use Rattle.bag_text.specs.Readers.{skip_blanks}
use Rattle.bag_text.proofs.blank.skip_blanks.Given as goal

abbrev pub invariant-loop-first : goal.invariant-loop-first
invariant-loop-first l = skip_blanks l.rest ≡ skip_blanks l.text

abbrev pub decreases-loop-first : goal.decreases-loop-first
decreases-loop-first l = length l.rest
