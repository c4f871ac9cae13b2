use Rattle.std.proofs.Common.{◌≡◌, ◌≤◌, ◌-◌, ◌++◌, List, ℕ, length}
use Rattle.records.specs.declared.layout.Layout.{Layout}
use Rattle.records.specs.declared.record.Record.{Record}
use Rattle.records.specs.Layout.{all_encoded}
use Rattle.records.specs.Records.{AreRecords}
use Rattle.ledger.specs.inner.Sizes.{Stops}
use Rattle.ledger.proofs.Passages.{Left}
use Rattle.ledger.proofs.sizes.pass_sizes.Given as goal

abbrev pub invariant-loop-size : goal.invariant-loop-size
invariant-loop-size l =
    (l.len ≤ length l.bytes)
    × ((y : Layout) (records : List Record) (rest : List ℕ) → AreRecords records
    → l.bytes ≡ all_encoded y records ++ rest → Stops rest → Left y l.bytes records rest l.len)

abbrev pub decreases-loop-size : goal.decreases-loop-size
decreases-loop-size l = length l.bytes - l.len
