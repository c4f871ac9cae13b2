use Rattle.std.proofs.Common.{◌≡◌, ◌++◌, take}
use Rattle.std.specs.List.{flat_map}
use Rattle.std.specs.String.{string_bytes}
use Rattle.audit_command.specs.Lines.{version_line}
use Rattle.audit_command.proofs.finding_lines.push_versions.Given as goal

-- what was appended so far
abbrev pub invariant-loop-version : goal.invariant-loop-version
invariant-loop-version l =
    string_bytes l.text
    ≡ string_bytes l.initial.text ++ flat_map version_line (take l.version-index l.versions)
