use Rattle.std.proofs.Common.{◌≡◌, ◌++◌, take}
use Rattle.std.specs.List.{flat_map}
use Rattle.std.specs.String.{string_bytes}
use Rattle.registered_checks.specs.Comparisons.{version_line}
use Rattle.registered_checks.proofs.comparison_lines.push_versions.Given as goal

-- what was appended so far
abbrev pub invariant-loop-version : goal.invariant-loop-version
invariant-loop-version l =
    string_bytes l.text
    ≡ string_bytes l.initial.text ++ flat_map (version_line l.held) (take l.version-index l.known)
