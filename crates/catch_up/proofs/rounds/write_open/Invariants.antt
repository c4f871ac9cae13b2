use Rattle.std.proofs.Common.{◌≡◌, take}
use Rattle.std.specs.Io.KnownBytes.{Appends}
use Rattle.catch_up.specs.Rounds.{open_of}
use Rattle.catch_up.specs.Reports.{open_lines}
use Rattle.catch_up.proofs.rounds.write_open.Given as goal

-- the lines of the versions so far, and no write has failed
abbrev pub invariant-loop-version : goal.invariant-loop-version
invariant-loop-version g l =
    (Appends (g.W.CountedWrite.contents l.fn.output) (g.W.CountedWrite.contents l.output)
    (open_lines (open_of (take l.version-index l.versions))))
    × (g.W.CountedWrite.failures l.output ≡ g.W.CountedWrite.failures l.fn.output)
