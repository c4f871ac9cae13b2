use Rattle.std.specs.Io.KnownBytes.{Consumes}
use Rattle.outcomes.proofs.input.read_within.Given as goal

-- the bytes so far are what the reader gave
abbrev pub invariant-reads : goal.invariant-reads
invariant-reads g l =
    Consumes (g.R.Read.remaining l.fn.input) (g.R.Read.remaining l.input) l.bytes.items
