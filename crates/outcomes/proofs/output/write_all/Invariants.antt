use Rattle.std.proofs.Common.{◌≤◌, length, take}
use Rattle.std.specs.Io.KnownBytes.{Appends}
use Rattle.outcomes.proofs.output.write_all.Given as goal

-- the writer took the front of the text
abbrev pub invariant-writes : goal.invariant-writes
invariant-writes g l = record {
  within : l.written ≤ length l.text;
  front : Appends (g.W.Write.contents l.fn.output) (g.W.Write.contents l.output)
      (take l.written l.text);
}
