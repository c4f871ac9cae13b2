-- What the turns of a batch are to the laws of sites that serve.
use Rattle.std.specs.Prelude.{◌≡◌, false, ℕ, List, [], ◌∷◌, ◌++◌, map, take, Option, Some, IsSome}
use Rattle.std.specs.Prelude.{Result, Ok}
use Rattle.fed_types.specs.Lists.{Has}
use Rattle.fed_types.specs.Values.{IsMembership}
use Rattle.bag_tree.specs.declared.fault.TreeFault.{TreeFault}
use Rattle.bag_tree.specs.Facts.{TreeFacts}
use Rattle.cell_device.specs.Devices.{Device}
use Rattle.book.specs.declared.fault.CommitFault.{CommitFault}
use Rattle.book.specs.declared.waiting.Waiting.{Waiting}
use Rattle.book.specs.Batches.{BatchCell, waiting}
use Rattle.book.specs.OpenBooks.{OpenBook}
use Rattle.records.specs.declared.record.Record.{Record}
use Rattle.records.specs.Records.{AreRecords}
use Rattle.site.specs.Batches.{no_cell}
use Rattle.udp_site.specs.Traffic.{Taken}
use Rattle.udp_site.specs.Turns.{Serving, Done, members, number, turn_of}
use Rattle.udp_site.specs.Served.{Turned}
use Rattle.udp_site.specs.BatchTurns.{Follow, IsSynced, took_by, posts_of}
use Rattle.serving_law.specs.Disks.{Disk, device}
use Rattle.serving_law.specs.Federations.{Federation, Ends, after_all}
use Rattle.serving_law.specs.Rules.{MayCome, MayRecoverTo, IsServing, MayAll}
use Rattle.batch_law.specs.OnDisks.{on_disk, whole, unseen, steps_of}

-- A turn of a site whose records wait is, by the same rule, a turn of that site on a disk.
abbrev pub TurnsAreTurns : Type 0
TurnsAreTurns =
    (addresses : List ℕ) (gives : Option (List ℕ → Result TreeFacts TreeFault))
    (old next : Serving Waiting) (took : Taken) (done : Done)
    → IsMembership (members old) → old.site.book.needs_opening ≡ false
    → AreRecords next.site.book.records
    → turn_of no_cell addresses gives old took done next
    → turn_of device addresses gives (on_disk old) took done (on_disk next)

-- The turns of a batch may happen one after another, whole, to a member that serves, if each thing
-- that they took may come before the first of them; and they leave the member as the batch does.
abbrev pub BatchesAreTurns : Type 0
BatchesAreTurns =
    (n : ℕ) (f : Federation Disk) (addresses : List ℕ)
    (folders : List ℕ → Result TreeFacts TreeFault) (old next : Serving Waiting)
    (turns : List Turned)
    (follow : Follow (turn_of no_cell addresses (Some folders)) old turns next)
    → IsMembership (members old) → old.site.book.needs_opening ≡ false
    → AreRecords next.site.book.records
    → IsServing device (members old) f n (on_disk old)
    → ((took : Taken) → Has took (took_by turns) → MayCome (members old) f.handed took)
    → MayAll device (members old) f
    (map (whole n) (steps_of addresses folders old next turns follow))
    × IsServing device (members old)
    (after_all f (map (whole n) (steps_of addresses folders old next turns follow))) n
    (on_disk next)
    × ((after_all f (map (whole n) (steps_of addresses folders old next turns follow))).handed
    ≡ f.handed ++ posts_of turns)

-- Where a batch isn't synced, its cell recovers to the records from before and the first k of the
-- new ones (`SaysFirst` of `book`), and nothing of the batch is told. So it is as if its first
-- turns, those that made these k records, had happened, with nothing handed out or written, and
-- then the member's process had ended, and left these records. The later turns did nothing.
abbrev pub UnsyncedBatchesAreTurns : Type 0
UnsyncedBatchesAreTurns =
    (n : ℕ) (f : Federation Disk) (addresses : List ℕ)
    (folders : List ℕ → Result TreeFacts TreeFault) (old next : Serving Waiting)
    (turns : List Turned) (new : List Record) (k : ℕ)
    → Follow (turn_of no_cell addresses (Some folders)) old turns next
    → next.site.book.records ≡ old.site.book.records ++ new
    → IsMembership (members old) → number old ≡ n → old.site.book.needs_opening ≡ false
    → AreRecords (old.site.book.records ++ take k new)
    → IsServing device (members old) f n (on_disk old)
    → ((took : Taken) → Has took (took_by turns) → MayCome (members old) f.handed took)
    → (first later : List Turned) × (first ++ later ≡ turns)
    × (mid : Serving Waiting)
    × (follow : Follow (turn_of no_cell addresses (Some folders)) old first mid)
    × MayAll device (members old) f
    (map (unseen n) (steps_of addresses folders old mid first follow)
    ++ Ends n (old.site.book.records ++ take k new) ∷ [])

-- What a cell may recover to, where its process ends within a batch, or after one whose sync
-- failed: the records that were synced before, and the first k of those that waited.
abbrev pub CrashesLeaveFirstRecords : {C : Type 0} → (C → Device) → Type 0
CrashesLeaveFirstRecords {C} device =
    (held now : BatchCell C) (book : OpenBook Waiting) (answer : Result (Unit {0}) CommitFault)
    (left : List Record)
    → held.needs_opening ≡ false → IsSynced device held book answer now
    → MayRecoverTo book.owner (device held.cell) (device now.cell) left
    → (k : ℕ) × (left ≡ take held.synced book.records ++ take k (waiting held book))

-- The records of a site whose batch was synced are records, if its cell tells its bytes.
abbrev pub SyncedAreRecords : {C : Type 0} → (C → Device) → Type 0
SyncedAreRecords {C} device =
    (held now : BatchCell C) (book : OpenBook Waiting)
    → held.needs_opening ≡ false → IsSynced device held book (Ok tt) now
    → IsSome (device now.cell).image
    → AreRecords book.records
