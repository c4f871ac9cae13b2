use Rattle.std.proofs.Common.{◌≡◌, ◌++◌, length}
use Rattle.bag_text.specs.Paths.{unescaped}
use Rattle.bag_text.proofs.path.unescaped.Given as goal

abbrev pub invariant-loop-byte : goal.invariant-loop-byte
invariant-loop-byte l = l.path.items ++ unescaped l.rest ≡ unescaped l.written

abbrev pub decreases-loop-byte : goal.decreases-loop-byte
decreases-loop-byte l = length l.rest
