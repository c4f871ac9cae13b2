use Rattle.std.proofs.Common.{◌∙◌, take, drop, Option, ap}
use Rattle.std.proofs.lemmas.List.{take-append-drop}
use Rattle.cell_device.specs.Images.{Image}
use Rattle.book.specs.Batches.{all_bytes}
use Rattle.book.specs.inner.Sound.{seen_of}
use Rattle.book.proofs.Commits.{rests}
use Rattle.book.proofs.Syncs.{after_is, is_none, is_some, none_waits, not_tried, not_written, done}
use Rattle.book.proofs.Syncs.{holds_all}
use Rattle.book.proofs.batch.sync_after.Goals as goal

pub returns-then-is_empty-clause-syncs : goal.returns-then-is_empty-clause-syncs
returns-then-is_empty-clause-syncs g c =
    none_waits g.C.Cell.device g.met.C.Cell.only_now c.args.owner.now c.args.records.now
    c.args.synced c.args.cell.now c.requires.held
    (is_none c.args.records.now c.args.synced c.is_empty.result c.is_empty.ensures
    c.if-is_empty.true)

pub returns-in_err-bytes-clause-syncs : goal.returns-in_err-bytes-clause-syncs
returns-in_err-bytes-clause-syncs g c =
    not_tried g.C.Cell.device g.met.C.Cell.only_now c.args.owner.now c.args.records.now
    c.args.synced c.args.cell.now c.requires.held
    (is_some c.args.records.now c.args.synced c.is_empty.result c.is_empty.ensures
    c.if-is_empty.false) c.from_residual.result
    c.from_residual.ensures.1

pub returns-in_err-append_synced-clause-syncs : goal.returns-in_err-append_synced-clause-syncs
returns-in_err-append_synced-clause-syncs g c =
    let failed = c.in_err-append_synced in
    not_written g.C.Cell.device g.met.C.Cell.only_now c.args.owner.now c.args.records.now
    c.args.synced c.args.cell.now c.requires.held
    (is_some c.args.records.now c.args.synced c.is_empty.result c.is_empty.ensures
    c.if-is_empty.false) c.append_synced.new.cell c.deref.result.now
    (rw (after_is c.args.records.now c.args.synced) at c.in_ok-bytes.ensures.sound)
    (c.deref.ensures.value ∙ c.in_ok-bytes.ensures.bytes
    ∙ ap all_bytes (after_is c.args.records.now c.args.synced))
    c.append_synced.ensures.any_moment failed.field-0.0
    c.from_residual-in_err-append_synced.result c.from_residual-in_err-append_synced.ensures.1
    c.append_synced.ensures.unknown failed.ensures.memory failed.ensures.cause
    failed.ensures.fuse failed.ensures.calls

pub returns-clause-held : goal.returns-clause-held
returns-clause-held g c =
    let old : Option Image = (g.C.Cell.device c.args.cell.now).image in
    let owner = c.args.owner.now in
    let all = c.args.records.now in
    let n = c.args.synced in
    holds_all owner (take n all) (drop n all) old (g.C.Cell.device c.append_synced.new.cell).image
    c.deref.result.now all c.requires.held
    (rw (after_is c.args.records.now c.args.synced) at c.in_ok-bytes.ensures.sound)
    (c.deref.ensures.value ∙ c.in_ok-bytes.ensures.bytes
    ∙ ap all_bytes (after_is c.args.records.now c.args.synced))
    (take-append-drop n all)
    c.append_synced.ensures.unknown
    (c.in_ok-append_synced.ensures.kept (seen_of old) (rests owner (take n all) old
    c.requires.held))

pub returns-clause-syncs : goal.returns-clause-syncs
returns-clause-syncs g c =
    let synced = c.in_ok-append_synced in
    done g.C.Cell.device g.met.C.Cell.only_now c.args.owner.now c.args.records.now
    c.args.synced c.args.cell.now c.requires.held
    (is_some c.args.records.now c.args.synced c.is_empty.result c.is_empty.ensures
    c.if-is_empty.false) c.append_synced.new.cell
    c.deref.result.now
    (rw (after_is c.args.records.now c.args.synced) at c.in_ok-bytes.ensures.sound)
    (c.deref.ensures.value ∙ c.in_ok-bytes.ensures.bytes
    ∙ ap all_bytes (after_is c.args.records.now c.args.synced))
    c.append_synced.ensures.any_moment (returns-clause-held g c) synced.ensures.cause
    synced.ensures.fuse synced.ensures.calls
