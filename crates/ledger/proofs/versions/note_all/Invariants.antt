use Rattle.std.proofs.Common.{◌++◌, List, take}
use Rattle.records.specs.declared.record.Record.{Record}
use Rattle.ledger.specs.inner.Rows.{Represents}
use Rattle.ledger.proofs.versions.note_all.Given as goal

-- the records so far were noted
abbrev pub invariant-loop-kept : goal.invariant-loop-kept
invariant-loop-kept l =
    (before : List Record) → Represents l.initial.versions before
    → Represents l.versions (before ++ take l.kept-index l.records)
