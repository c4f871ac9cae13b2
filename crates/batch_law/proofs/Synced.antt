-- What a synced batch leaves in its cell.
use Rattle.std.proofs.Common.{List, Option, Some, None, ◌∙◌}
use Rattle.std.proofs.lemmas.List.{take-append-drop}
use Rattle.std.specs.Prelude.{IsSome}
use Rattle.cell_device.specs.Images.{Image}
use Rattle.records.specs.declared.owner.Owner.{Owner}
use Rattle.records.specs.declared.record.Record.{Record}
use Rattle.records.specs.Records.{AreRecords}
use Rattle.records.proofs.Texts.{text_records}
use Rattle.book.specs.OpenBooks.{LeavesText}
use Rattle.batch_law.specs.Laws.{SyncedAreRecords}
use Rattle.cell_device.specs.Devices.{Device}

-- a text is one of records
of_text : (owner : Owner) (records : List Record) (image : Option Image) → IsSome image
    → LeavesText owner records image → AreRecords records
of_text owner records None told text = absurd (cc told)
of_text owner records (Some i) told text = text_records owner records i.seen text.0

pub synced : {C : Type 0} (device : C → Device) → SyncedAreRecords device
synced device held now book opened is told =
    let does = is.syncs opened in
    rw (does.committed.0 ∙ take-append-drop held.synced book.records) at
    (of_text book.owner _ (device now.cell).image told does.durable)
