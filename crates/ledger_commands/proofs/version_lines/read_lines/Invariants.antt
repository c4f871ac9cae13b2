use Rattle.std.proofs.Common.{ℕ, List}
use Rattle.std.specs.Io.KnownBytes.{Consumes}
use Rattle.ledger.specs.LedgerPieces.{HasNoted}
use Rattle.ledger_commands.proofs.version_lines.read_lines.Given as goal

-- what was read was noted
abbrev pub invariant-reads : goal.invariant-reads
invariant-reads g l =
    (taken : List ℕ)
    × Consumes (g.R.Read.remaining l.fn.cell) (g.R.Read.remaining l.cell) taken
    × HasNoted l.lines taken
