-- A site between two batches: its cell recovers to its records.
use Rattle.std.proofs.Common.{◌≡◌, ℕ, false, List, take, Option, Some, None, ◌∙◌}
use Rattle.std.proofs.lemmas.List.{take-append-drop}
use Rattle.std.proofs.Math.Seq.{take-length}
use Rattle.std.specs.Prelude.{Result, Ok, IsSome}
use Rattle.bag_tree.specs.declared.fault.TreeFault.{TreeFault}
use Rattle.bag_tree.specs.Facts.{TreeFacts}
use Rattle.cell_device.specs.Devices.{Device}
use Rattle.cell_device.specs.Images.{Image, MayLeave}
use Rattle.records.specs.declared.owner.Owner.{Owner}
use Rattle.records.specs.declared.record.Record.{Record}
use Rattle.records.specs.Journals.{DecodesTo}
use Rattle.records.specs.Records.{AreRecords}
use Rattle.records.proofs.OneReading.{same_records_said}
use Rattle.book.specs.declared.waiting.Waiting.{Waiting}
use Rattle.book.specs.Batches.{BatchCell}
use Rattle.book.specs.OpenBooks.{OpenBook, RecoversTo, ReadSays}
use Rattle.book.specs.Opened.{Opens}
use Rattle.site.specs.Batches.{no_cell}
use Rattle.site.specs.Sites.{OpenSite}
use Rattle.site.proofs.Batched.{Grows}
use Rattle.udp_site.specs.Turns.{turn_of}
use Rattle.udp_site.specs.BatchTurns.{Batch, Batching, Batches}
use Rattle.udp_site.proofs.WaitingTurns.{followed}
use Rattle.serving_law.specs.Rules.{MayRecoverTo}
use Rattle.serving_law.proofs.Scene.{OnlyNow}
use Rattle.site_commands.specs.Services.{IsParted}
use Rattle.batch_law.proofs.Synced.{synced}
use Rattle.process_law.proofs.Decoded.{decoded}

every_crash : (owner : Owner) (records : List Record) (image : Option Image) → IsSome image
    → RecoversTo owner records image → (bytes : List ℕ) → MayLeave image bytes
    → DecodesTo owner bytes (Ok records)
every_crash owner records None told recovers bytes left = absurd (cc told)
every_crash owner records (Some i) told recovers bytes left = recovers.1 bytes left

read : (owner : Owner) (records : List Record) (image : Option Image) → IsSome image
    → ReadSays owner image (Ok records) → AreRecords records
read owner records None told says = absurd (cc told)
read owner records (Some i) told says = decoded owner i.seen records says

module _ {C : Type 0} (device : C → Device) (tells : (c : C) → IsSome (device c).image)
    (owner : Owner) where
  pub record Stands (book : OpenBook Waiting) (held : BatchCell C) : Type 0 where
    pub whose : book.owner ≡ owner
    pub opened : book.needs_opening ≡ false
    pub held_opened : held.needs_opening ≡ false
    pub synced : take held.synced book.records ≡ book.records
    pub recovers : RecoversTo owner book.records (device held.cell).image
    pub are : AreRecords book.records

  -- what a crash may leave then
  pub same_left : OnlyNow device → {book : OpenBook Waiting} {held : BatchCell C}
      → Stands book held → {left : List Record}
      → MayRecoverTo owner (device held.cell) (device held.cell) left → left ≡ book.records
  same_left only_now {book} {held} stands {left} may =
      same_records_said owner left book.records may.bytes may.says
      (every_crash owner book.records (device held.cell).image (tells held.cell) stands.recovers
      may.bytes (only_now held.cell may.bytes may.left))

  -- a site that was opened, and parted from its cell
  pub stands_first : {cell : C} {opened : OpenSite C} → Opens device owner cell (Ok opened.book)
      → {site : OpenSite Waiting} {held : BatchCell C} → IsParted opened site held
      → Stands site.book held
  stands_first {cell} {opened} opens {site} {held} parted = record {
    whose = parted.owner ∙ opens.whose.0;
    opened = parted.waits;
    held_opened = parted.needs_opening ∙ opens.whose.1;
    synced = rw (parted.synced, ← parted.records, take-length site.book.records);
    recovers = rw (parted.cell, parted.records) opens.recovers;
    are =
        rw parted.records
        (read owner opened.book.records (device cell).image (tells cell) opens.records);
  }

  -- after a batch that is synced
  pub stands_next : (addresses : List ℕ) (gives : Option (List ℕ → Result TreeFacts TreeFault))
      {old next : Batching C} {batch : Batch} → Stands old.serving.site.book old.held
      → Batches device (turn_of no_cell addresses gives) old batch (Ok tt) next
      → Stands next.serving.site.book next.held
  stands_next addresses gives {old} {next} {batch} stands batches =
      let book : OpenBook Waiting = next.serving.site.book in
      let grows : Grows old.serving.site.book book =
      followed addresses gives old.serving next.serving batch.turns stands.opened
      batches.follow in
      let does = batches.synced.syncs stands.held_opened in
      let whose : book.owner ≡ owner = grows.owner ∙ stands.whose in
      let whole : take next.held.synced book.records ≡ book.records =
      does.committed.0 ∙ take-append-drop old.held.synced book.records in
      record {
        whose = whose;
        opened = grows.opened ∙ stands.opened;
        held_opened = does.committed.1;
        synced = whole;
        recovers = rw (whose, whole) at does.recovers;
        are =
            synced device old.held next.held book stands.held_opened batches.synced
            (tells next.held.cell);
      }
