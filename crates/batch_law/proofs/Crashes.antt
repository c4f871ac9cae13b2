-- A batch that isn't synced leaves a prefix of its records.
use Rattle.std.proofs.Common.{◌++◌, take, Option, Some, None}
use Rattle.std.specs.Prelude.{IsSome}
use Rattle.cell_device.specs.Devices.{Device}
use Rattle.cell_device.specs.Images.{Image, IfKnown}
use Rattle.records.proofs.OneReading.{same_records_said}
use Rattle.book.specs.Batches.{SaysFirst, waiting}
use Rattle.batch_law.specs.Laws.{CrashesLeaveFirstRecords}

-- what is so of known bytes is so where they are known
known : (image : Option Image) (P : Type 0) → IsSome image → IfKnown image (λ i. P) → P
known None P told is = absurd (cc told)
known (Some i) P told is = is

pub crashes : {C : Type 0} (device : C → Device) → CrashesLeaveFirstRecords device
crashes device held now book answer left opened is may =
    let synced = take held.synced book.records in
    let first : SaysFirst book.owner synced (waiting held book) may.bytes =
    known (device held.cell).image (SaysFirst book.owner synced (waiting held book) may.bytes)
    may.told ((is.syncs opened).any_moment.each may.bytes may.left) in (
      first.0,
      same_records_said book.owner left (synced ++ take first.0 (waiting held book)) may.bytes
          may.says first.1,
    )
