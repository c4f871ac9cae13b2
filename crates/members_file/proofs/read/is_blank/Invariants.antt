use Rattle.std.proofs.Common.{◌≡◌, length}
use Rattle.std.specs.Str.Lines.{lines}
use Rattle.members_file.specs.Files.{are_blank}
use Rattle.members_file.proofs.read.is_blank.Given as goal

-- the lines so far are blank
abbrev pub invariant-loop-line : goal.invariant-loop-line
invariant-loop-line l = are_blank (lines l.text) ≡ are_blank (lines l.rest)

abbrev pub decreases-loop-line : goal.decreases-loop-line
decreases-loop-line l = length l.rest
