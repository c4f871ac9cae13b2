use Rattle.std.proofs.Common.{length}
use Rattle.std.specs.Str.Lines.{lines}
use Rattle.members_file.specs.inner.Sites.{BeginsSites}
use Rattle.members_file.proofs.read.read_sites.Given as goal

-- the lines so far are those of the sites so far
abbrev pub invariant-loop-line : goal.invariant-loop-line
invariant-loop-line l = BeginsSites (lines l.text) l.sites.items (lines l.rest)

abbrev pub decreases-loop-line : goal.decreases-loop-line
decreases-loop-line l = length l.rest
