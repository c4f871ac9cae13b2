use Rattle.std.proofs.Common.{◌≡◌, ◌++◌, replicate, take, string_bytes}
use Rattle.std.specs.List.{flat_map}
use Rattle.schedule.specs.Texts.{federation_line, printed_line}
use Rattle.schedule.proofs.print_schedule.print.Given as goal

abbrev pub invariant-loop : goal.invariant-loop
invariant-loop l = string_bytes l.text ≡ replicate l.counter 10

-- the lines so far are printed
abbrev pub invariant-loop-line : goal.invariant-loop-line
invariant-loop-line l =
    string_bytes l.text ≡ replicate l.schedule.skipped 10 ++ federation_line l.schedule.members
    ++ flat_map printed_line (take l.line-index l.schedule.lines)
