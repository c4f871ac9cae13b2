use Rattle.std.proofs.Common.{◌≡◌, take}
use Rattle.std.specs.String.{string_bytes}
use Rattle.lines.specs.Texts.{text_of}
use Rattle.simulator.proofs.print_run.text.Given as goal

-- the text of the lines so far
abbrev pub invariant-loop-line : goal.invariant-loop-line
invariant-loop-line l =
    string_bytes l.text ≡ text_of l.options (take l.line-index l.trace)
