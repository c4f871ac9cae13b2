-- Which part of a journal may not be synced yet, and which part is sure to outlive a crash.
use Rattle.std.specs.Prelude.{◌≡◌, ◌⊎◌, ◌-◌, ℕ, List, length, take}
use Rattle.cell_device.specs.Images.{Image, at_rest, with_bytes}
use Rattle.records.specs.declared.owner.Owner.{Owner}
use Rattle.records.specs.declared.record.Record.{Record}
use Rattle.records.specs.Layout.{record_bytes}
use Rattle.records.specs.Records.{IsRecord}
use Rattle.records.specs.Texts.{IsTextOf}

-- At most so many records aren't synced while each is committed by itself: a commit appends one, and
-- syncs. A batch appends more: Batches has the same for any number.
abbrev pub most_unsynced : ℕ
most_unsynced = 1

-- of the records that a reader finds in a cell in use, those that are synced
abbrev pub synced_records : List Record → List Record
synced_records records = take (length records - most_unsynced) records

-- the cell of a site that has opened it, and whose commits haven't failed since: a text that is
-- synced, and at most one record after it that isn't
abbrev pub IsInUse : Owner → Image → Type 0
IsInUse owner i =
    (records : List Record) × (text : List ℕ) × IsTextOf owner records text
    × ((i ≡ at_rest text)
    ⊎ ((new : Record) × IsRecord new × (i ≡ with_bytes (record_bytes new) (at_rest text))))
