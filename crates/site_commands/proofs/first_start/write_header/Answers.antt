use Rattle.std.proofs.Common.{List, ℕ, ◌∙◌, subst}
use Rattle.cell_device.specs.Time.{LeavesOnly}
use Rattle.site_commands.specs.inner.Begun.{LeavesHeader}
use Rattle.site_commands.proofs.BegunCells.{synced_before}
use Rattle.site_commands.proofs.first_start.write_header.Goals as goal

pub returns-clause-any_moment : goal.returns-clause-any_moment
returns-clause-any_moment g c =
    let device = g.C.Cell.device in
    let old = c.args.cell.now in
    let new = c.append_header.new.cell in
    subst (λ (h : List ℕ). LeavesOnly (device old) (device new)
    (LeavesHeader h (device old).image)) (c.deref.ensures.value ∙ c.in_ok-header.ensures.bytes)
    (synced_before c.deref.result.now device g.met.C.Cell.only_now old c.in_ok-sync.field-0
    c.sync.new.self new c.requires.none c.in_ok-sync.ensures.does
    c.append_header.ensures.any_moment)
