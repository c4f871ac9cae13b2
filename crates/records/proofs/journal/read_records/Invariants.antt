use Rattle.std.proofs.Common.{◌≡◌, ◌≤◌, ◌-◌, List, length}
use Rattle.records.specs.declared.record.Record.{Record}
use Rattle.records.specs.Layout.{all_encoded}
use Rattle.records.specs.Records.{AreRecords}
use Rattle.records.proofs.Again.{IsReadTo}
use Rattle.records.proofs.journal.read_records.Given as goal

abbrev pub invariant-loop-next : goal.invariant-loop-next
invariant-loop-next l =
    (l.place ≤ length l.bytes)
    × ((rs : List Record) → AreRecords rs → l.bytes ≡ all_encoded l.layout rs
    → IsReadTo l.layout l.bytes rs l.place l.fn.records.items l.records.items)

abbrev pub decreases-loop-next : goal.decreases-loop-next
decreases-loop-next l = length l.bytes - l.place
