use Rattle.std.proofs.Common.{take}
use Rattle.deposit_list.specs.Windows.{AreFresh}
use Rattle.deposit_list.proofs.rounds.fresh.Given as goal

abbrev pub invariant-loop-deposit : goal.invariant-loop-deposit
invariant-loop-deposit l = AreFresh (take l.deposit-index l.window) l.entries.items
