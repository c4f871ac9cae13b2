-- How long the program waits for the end of its input.
use Rattle.std.specs.Prelude.{ℕ}

-- a reader that hasn't ended after this many reads counts as one that failed
abbrev pub most_reads : ℕ
most_reads = 4294967295
