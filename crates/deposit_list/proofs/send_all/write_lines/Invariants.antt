use Rattle.std.proofs.Common.{◌≡◌, take}
use Rattle.std.specs.Io.KnownBytes.{Appends}
use Rattle.deposit_list.specs.Reports.{entry_lines}
use Rattle.deposit_list.proofs.send_all.write_lines.Given as goal

-- the lines so far, and no write has failed
abbrev pub invariant-loop-entry : goal.invariant-loop-entry
invariant-loop-entry g l =
    (Appends (g.W.CountedWrite.contents l.fn.output) (g.W.CountedWrite.contents l.output)
    (entry_lines l.to (take l.entry-index l.entries)))
    × (g.W.CountedWrite.failures l.output ≡ g.W.CountedWrite.failures l.fn.output)
