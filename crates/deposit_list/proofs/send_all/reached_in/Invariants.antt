use Rattle.std.proofs.Common.{◌≡◌, take}
use Rattle.deposit_list.specs.Reports.{reached_in}
use Rattle.deposit_list.proofs.send_all.reached_in.Given as goal

abbrev pub invariant-loop-entry : goal.invariant-loop-entry
invariant-loop-entry l = l.reached ≡ reached_in l.aim (take l.entry-index l.entries)
