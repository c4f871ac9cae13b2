use Rattle.std.proofs.Common.{◌≡◌, take}
use Rattle.records.specs.Records.{AreRecords}
use Rattle.book.specs.Batches.{all_bytes}
use Rattle.book.proofs.batch.bytes_of.Given as goal

-- the bytes of the records so far
abbrev pub invariant-loop-new : goal.invariant-loop-new
invariant-loop-new l =
    (l.bytes.items ≡ all_bytes (take l.new-index l.records))
    × AreRecords (take l.new-index l.records)
