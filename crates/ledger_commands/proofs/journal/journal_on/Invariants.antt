use Rattle.std.proofs.Common.{ℕ, List}
use Rattle.std.specs.Io.KnownBytes.{Appends, Consumes}
use Rattle.ledger.specs.Pieces.{HasGiven}
use Rattle.ledger_commands.proofs.journal.journal_on.Given as goal

-- the lines that were given of what was read are what was written
abbrev pub invariant-reads : goal.invariant-reads
invariant-reads g l =
    (taken : List ℕ) × (text : List ℕ)
    × Consumes (g.R.Read.remaining l.fn.cell) (g.R.Read.remaining l.cell) taken
    × HasGiven l.lines taken text
    × Appends (g.W.Write.contents l.fn.output) (g.W.Write.contents l.output) text
