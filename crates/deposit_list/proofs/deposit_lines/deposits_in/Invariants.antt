use Rattle.std.proofs.Common.{length}
use Rattle.deposit_list.proofs.Lists.{IsRead}
use Rattle.deposit_list.proofs.deposit_lines.deposits_in.Given as goal

abbrev pub invariant-loop-line : goal.invariant-loop-line
invariant-loop-line l = IsRead l.text l.rest l.number l.listed

abbrev pub decreases-loop-line : goal.decreases-loop-line
decreases-loop-line l = length l.rest
