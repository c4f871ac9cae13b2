-- The records in a cell after a sync.
use Rattle.std.specs.Prelude.{ℕ, List, take, Result, Ok, Err}
use Rattle.records.specs.declared.record.Record.{Record}
use Rattle.book.specs.declared.fault.CommitFault.{CommitFault}

-- all, or the first so many if the sync wasn't done
abbrev pub records_after : Result (Unit {0}) CommitFault → ℕ → List Record → List Record
records_after (Ok x) synced records = records
records_after (Err fault) synced records = take synced records
