use Rattle.std.proofs.Common.{◌≡◌, ◌++◌, true, drop}
use Rattle.folder_checks.specs.Reports.{named_from}
use Rattle.folder_checks.proofs.named.with_name.Given as goal

-- with the lines of the rest after it, it is all of the text
abbrev pub invariant-loop-byte : goal.invariant-loop-byte
invariant-loop-byte l =
    l.bytes.items ++ named_from l.name l.begins (drop l.byte-index l.text)
    ≡ named_from l.name true l.text
