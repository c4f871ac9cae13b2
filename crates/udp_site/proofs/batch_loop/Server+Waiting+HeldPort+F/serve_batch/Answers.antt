use Rattle.std.proofs.Common.{inl, ◌≡◌, ◌∙◌, ap, refl, false, Ok, Err, inr}
use Rattle.book.specs.declared.fault.CommitFault.{CommitFault}
use Rattle.book.specs.Batches.{HoldsFirst}
use Rattle.site.specs.Batches.{no_cell}
use Rattle.site.proofs.Batched.{Grows, still_holds}
use Rattle.udp_site.specs.Turns.{turn_of}
use Rattle.udp_site.proofs.Growth.{Grows-none, Appends-none}
use Rattle.udp_site.proofs.Handed.{is_err}
use Rattle.udp_site.proofs.SyncedBatch.{synced_so, written_so, device_failed, needed_opening}
use Rattle.udp_site.proofs.WaitingTurns.{taken_grows}
use Rattle.udp_site.proofs.batch_loop.Server+Waiting+HeldPort+F.serve_batch.Given.{Over}
use Rattle.udp_site.proofs.batch_loop.Server+Waiting+HeldPort+F.serve_batch.Goals.{After-handle_batch}
use Rattle.udp_site.proofs.batch_loop.Server+Waiting+HeldPort+F.serve_batch.Goals as goal

-- the turns only add records
grows : (g : Over) (c : After-handle_batch g)
    → Grows c.args.self.now.site.now.book c.handle_batch.new.self.site.now.book
grows g c =
    taken_grows _ _ _ c.requires.stands.0 _ _ c.requires.stands.1.there c.requires.waits _ _ _ _ _
    (c.handle_batch.ensures.takes c.requires.stands.0 c.requires.stands.1)

waits : (g : Over) (c : After-handle_batch g)
    → c.handle_batch.new.self.site.now.book.needs_opening ≡ false
waits g c = (grows g c).opened ∙ c.requires.waits

holds : (g : Over) (c : After-handle_batch g)
    → HoldsFirst g.C.Cell.device c.args.held.now c.handle_batch.new.self.site.now.book
holds g c = still_holds g.C.Cell.device _ _ _ (grows g c) c.requires.held

pub returns-in_err-handle_batch-clause-serves : goal.returns-in_err-handle_batch-clause-serves
returns-in_err-handle_batch-clause-serves g c s here =
    rw (is_err _ _ c.from_residual.ensures.1) (
      g.P.Port.traffic c.handle_batch.new.port,
      c.handle_batch.ensures.joins,
      inl (c.in_err-handle_batch.ensures.takes s here, refl, (Grows-none _, Appends-none _)),
    )

pub returns-in_err-handle_batch-clause-held : goal.returns-in_err-handle_batch-clause-held
returns-in_err-handle_batch-clause-held g c =
    holds g (goal.at.returns-in_err-handle_batch-clause-held g c).After-handle_batch

pub returns-in_err-handle_batch-clause-waits : goal.returns-in_err-handle_batch-clause-waits
returns-in_err-handle_batch-clause-waits g c =
    waits g (goal.at.returns-in_err-handle_batch-clause-waits g c).After-handle_batch

pub sync-requires : goal.sync-requires
sync-requires g c = holds g (goal.at.sync-requires g c).After-handle_batch

pub returns-in_err-release-in-Ok-clause-serves : goal.returns-in_err-release-in-Ok-clause-serves
returns-in_err-release-in-Ok-clause-serves g c s here =
    let all = c.in_ok-handle_batch.ensures.takes s here in
    let part = rw all.8 at c.in_err-release-in-Ok.ensures.hands in
    let synced = synced_so g.C.Cell.device c.args.held.now c.sync.new.held
    c.handle_batch.new.self.site.now.book (Ok c.in-Ok.synced) c.in-Ok.ensures.syncs
    c.in-Ok.ensures.needs_open c.in-Ok.ensures.untouched in
    rw (is_err _ _ c.from_residual-in_err-release-in-Ok.ensures.1) (
      g.P.Port.traffic c.handle_batch.new.port,
      c.handle_batch.ensures.joins,
      inr (inr (part.0, (all.0, all.1, all.2, all.3, all.4, synced, (part.1, Appends-none _)))),
    )

pub returns-in_err-release-in-Ok-clause-waits : goal.returns-in_err-release-in-Ok-clause-waits
returns-in_err-release-in-Ok-clause-waits g c =
    waits g (goal.at.returns-in_err-release-in-Ok-clause-waits g c).After-handle_batch

pub returns-in_ok-release-in-Ok-clause-serves : goal.returns-in_ok-release-in-Ok-clause-serves
returns-in_ok-release-in-Ok-clause-serves g c s here =
    let was = c.args.self.now in
    rw c.tell_counts.ensures.traffic (
      g.P.Port.traffic c.handle_batch.new.port,
      c.handle_batch.ensures.joins,
      written_so g.C.Cell.device
          (turn_of no_cell was.addresses.now (g.F.Folders.gives was.folders.now)) _ _ _ s _ _ _ _ _
          _ _ (c.in_ok-handle_batch.ensures.takes s here)
          (synced_so g.C.Cell.device _ _ _ (Ok c.in-Ok.synced) c.in-Ok.ensures.syncs
          c.in-Ok.ensures.needs_open c.in-Ok.ensures.untouched)
          c.in_ok-release-in-Ok.ensures.hands _
          (rw c.deref.ensures.value at c.write_lines.ensures.whole)
          (rw c.deref.ensures.value at c.write_lines.ensures.part)
          c.write_lines.ensures.none c.write_lines.ensures.fault,
    )

pub returns-in_ok-release-in-Ok-clause-waits : goal.returns-in_ok-release-in-Ok-clause-waits
returns-in_ok-release-in-Ok-clause-waits g c =
    waits g (goal.at.returns-in_ok-release-in-Ok-clause-waits g c).After-handle_batch

pub returns-in-Err-Memory-clause-serves : goal.returns-in-Err-Memory-clause-serves
returns-in-Err-Memory-clause-serves g c s here =
    let all = c.in_ok-handle_batch.ensures.takes s here in
    let err = c.in-Err-Memory in
    let synced = rw err.field-0-is at
    (synced_so g.C.Cell.device c.args.held.now c.sync.new.held
    c.handle_batch.new.self.site.now.book (Err err.field-0) err.ensures.syncs err.ensures.needs_open
    err.ensures.untouched) in (
      g.P.Port.traffic c.handle_batch.new.port,
      c.handle_batch.ensures.joins,
      inr (inl (all.0, all.1, all.2, all.3, all.4, synced, (Grows-none _, Appends-none _))),
    )

pub returns-in-Err-Memory-clause-waits : goal.returns-in-Err-Memory-clause-waits
returns-in-Err-Memory-clause-waits g c =
    waits g (goal.at.returns-in-Err-Memory-clause-waits g c).After-handle_batch

pub returns-in-Err-Device-clause-serves : goal.returns-in-Err-Device-clause-serves
returns-in-Err-Device-clause-serves g c s here =
    let was = c.args.self.now in
    let err = c.in-Err-Device in
    let told = c.tell_unsynced.ensures in
    rw (told.fault, told.site) (
      g.P.Port.traffic c.handle_batch.new.port,
      c.handle_batch.ensures.joins,
      device_failed g.C.Cell.device
          (turn_of no_cell was.addresses.now (g.F.Folders.gives was.folders.now)) _ _ _ s _ _ _ _ _
          _ _ (c.in_ok-handle_batch.ensures.takes s here)
          (rw err.field-0-is at
          (synced_so g.C.Cell.device c.args.held.now c.sync.new.held
          c.handle_batch.new.self.site.now.book (Err err.field-0) err.ensures.syncs
          err.ensures.needs_open err.ensures.untouched))
          (rw c.deref-in-Err-Device.ensures.value at told.handed) told.written,
    )

pub returns-in-Err-Device-clause-waits : goal.returns-in-Err-Device-clause-waits
returns-in-Err-Device-clause-waits g c =
    rw c.tell_unsynced.ensures.site
    (waits g (goal.at.returns-in-Err-Device-clause-waits g c).After-handle_batch)

pub returns-in-Err-NeedsOpen-clause-serves : goal.returns-in-Err-NeedsOpen-clause-serves
returns-in-Err-NeedsOpen-clause-serves g c s here =
    let was = c.args.self.now in
    let err = c.in-Err-NeedsOpen in
    let told = c.tell_unsynced-in-Err-NeedsOpen.ensures in
    let is = ap (λ (f : CommitFault). Err f) err.field-0-is in
    rw (told.fault, told.site) (
      g.P.Port.traffic c.handle_batch.new.port,
      c.handle_batch.ensures.joins,
      needed_opening g.C.Cell.device
          (turn_of no_cell was.addresses.now (g.F.Folders.gives was.folders.now)) _ _ _ s _ _ _ _ _
          _ _ (c.in_ok-handle_batch.ensures.takes s here)
          (rw err.field-0-is at
          (synced_so g.C.Cell.device c.args.held.now c.sync.new.held
          c.handle_batch.new.self.site.now.book (Err err.field-0) err.ensures.syncs
          err.ensures.needs_open err.ensures.untouched))
          (rw (err.ensures.untouched is) (err.ensures.needs_open.0 is))
          (rw c.deref-in-Err-NeedsOpen.ensures.value at told.handed) told.written,
    )

pub returns-in-Err-NeedsOpen-clause-waits : goal.returns-in-Err-NeedsOpen-clause-waits
returns-in-Err-NeedsOpen-clause-waits g c =
    rw c.tell_unsynced-in-Err-NeedsOpen.ensures.site
    (waits g (goal.at.returns-in-Err-NeedsOpen-clause-waits g c).After-handle_batch)
