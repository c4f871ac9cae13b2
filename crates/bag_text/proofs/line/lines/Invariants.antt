use Rattle.std.proofs.Common.{◌≡◌, map, ◌++◌, length}
use Rattle.bag_text.specs.Lines.{lines_of}
use Rattle.bag_text.proofs.line.lines.Given as goal

abbrev pub invariant-loop-rest : goal.invariant-loop-rest
invariant-loop-rest l = map (λ line. line.now) l.found.items ++ lines_of l.rest ≡ lines_of l.text

abbrev pub decreases-loop-rest : goal.decreases-loop-rest
decreases-loop-rest l = length l.rest
