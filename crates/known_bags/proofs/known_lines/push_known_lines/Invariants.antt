use Rattle.std.proofs.Common.{length}
use Rattle.known_bags.proofs.Lists.{IsRead}
use Rattle.known_bags.proofs.known_lines.push_known_lines.Given as goal

abbrev pub invariant-loop-line : goal.invariant-loop-line
invariant-loop-line l = IsRead l.text l.rest l.number l.initial.bags.items l.bags.items

abbrev pub decreases-loop-line : goal.decreases-loop-line
decreases-loop-line l = length l.rest
