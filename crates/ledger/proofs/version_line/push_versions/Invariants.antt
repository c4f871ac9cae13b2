use Rattle.std.proofs.Common.{◌≡◌, ◌++◌, take}
use Rattle.std.specs.List.{flat_map}
use Rattle.std.specs.String.{string_bytes}
use Rattle.ledger.specs.inner.Rows.{listed_in}
use Rattle.ledger.proofs.version_line.push_versions.Given as goal

-- what was appended so far
abbrev pub invariant-loop-place : goal.invariant-loop-place
invariant-loop-place l =
    string_bytes l.text
    ≡ string_bytes l.initial.text
    ++ flat_map (listed_in l.wanted l.versions.rows) (take l.place l.versions.slots)
