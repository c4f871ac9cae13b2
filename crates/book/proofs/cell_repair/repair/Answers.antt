use Rattle.std.proofs.Common.{Option, ◌≡◌, ◌++◌, List, ℕ, take, drop, ap, ◌∙◌, Ok}
use Rattle.cell_device.specs.Images.{Image, IfKnown}
use Rattle.records.specs.Layout.{header_bytes}
use Rattle.records.specs.Journals.{DecodesTo}
use Rattle.records.proofs.Walk.{from, from_is}
use Rattle.book.proofs.Commits.{ok_holds}
use Rattle.book.proofs.Moments.{joined}
use Rattle.book.proofs.Repairs.{cutting, appending_says, still_rests}
use Rattle.book.proofs.cell_repair.repair.Goals as goal

pub returns-clause-repaired : goal.returns-clause-repaired
returns-clause-repaired g c =
    let image : g.row.C.Denot → Option Image = λ cell. (g.C.Cell.device cell).image in
    let mend = c.find_repair-mend in
    let bytes = c.args.bytes.now in
    let owner = c.args.owner.now in
    let rs = c.args.journal.now.records.items in
    let text = take mend.result.keep bytes in
    let same : from c.args.header.now mend.result.from ≡ drop mend.result.from
    (header_bytes owner) =
    from_is c.args.header.now mend.result.from ∙ ap (drop mend.result.from) c.requires.header in
    let rest = still_rests text (image c.args.cell.now) (image c.cut_synced.new.cell)
    c.in_ok-cut_synced.ensures.kept in
    ok_holds owner rs c.append_synced.result (text ++ from c.args.header.now mend.result.from)
    (image c.append_synced.new.cell)
    (rw same mend.ensures.text)
    (c.append_synced.ensures.kept text rest)

pub returns-clause-any_moment : goal.returns-clause-any_moment
returns-clause-any_moment g c =
    let device = g.C.Cell.device in
    let image : g.row.C.Denot → Option Image = λ cell. (device cell).image in
    let only = g.met.C.Cell.only_now in
    let old = c.args.cell.now in
    let mid = c.cut_synced.new.cell in
    let mend = c.find_repair-mend in
    let bytes = c.args.bytes.now in
    let owner = c.args.owner.now in
    let rs = c.args.journal.now.records.items in
    let text = take mend.result.keep bytes in
    let more = from c.args.header.now mend.result.from in
    let same : more ≡ drop mend.result.from (header_bytes owner) =
    from_is c.args.header.now mend.result.from ∙ ap (drop mend.result.from) c.requires.header in
    let P : List ℕ → Type 0 = λ b. IfKnown (image old) (λ i. DecodesTo owner b (Ok rs)) in
    let first = cutting owner bytes rs mend.result mend.ensures device only old mid
    c.cut_synced.ensures.any_moment in
    let rest = still_rests text (image old) (image mid) c.in_ok-cut_synced.ensures.kept in
    joined device only old mid c.append_synced.new.cell P
    (λ b. IfKnown (image mid) (λ i. (k : ℕ) × (b ≡ text ++ take k more))) first
    (c.append_synced.ensures.any_moment text rest)
    (λ b left. appending_says owner bytes rs mend.result mend.ensures (image old) (image mid) more b
    c.in_ok-cut_synced.ensures.kept same left)
