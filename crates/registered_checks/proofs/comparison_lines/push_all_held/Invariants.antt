use Rattle.std.proofs.Common.{◌≡◌, ◌++◌, take}
use Rattle.std.specs.List.{flat_map}
use Rattle.std.specs.String.{string_bytes}
use Rattle.registered_checks.specs.Comparisons.{held_lines}
use Rattle.registered_checks.proofs.comparison_lines.push_all_held.Given as goal

-- what was appended so far
abbrev pub invariant-loop-bag : goal.invariant-loop-bag
invariant-loop-bag l =
    string_bytes l.text
    ≡ string_bytes l.initial.text ++ flat_map (held_lines l.known) (take l.bag-index l.held)
