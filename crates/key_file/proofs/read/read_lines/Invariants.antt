use Rattle.std.proofs.Common.{◌≡◌, length}
use Rattle.std.specs.Str.Lines.{lines}
use Rattle.key_file.specs.Files.{keys_in, keys_after}
use Rattle.key_file.proofs.read.read_lines.Given as goal

-- what is left to read says the rest
abbrev pub invariant-loop-line : goal.invariant-loop-line
invariant-loop-line l = keys_in l.text ≡ keys_after l.keys.items (lines l.rest)

abbrev pub decreases-loop-line : goal.decreases-loop-line
decreases-loop-line l = length l.rest
