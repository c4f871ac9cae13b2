use Rattle.std.proofs.Common.{◌≡◌, ◌++◌, take}
use Rattle.std.specs.List.{flat_map}
use Rattle.std.specs.String.{string_bytes}
use Rattle.ledger.specs.Lines.{record_line}
use Rattle.ledger.proofs.cell_text.push_records.Given as goal

-- what was appended so far
abbrev pub invariant-loop-kept : goal.invariant-loop-kept
invariant-loop-kept l =
    string_bytes l.text
    ≡ string_bytes l.initial.text ++ flat_map record_line (take l.kept-index l.records)
