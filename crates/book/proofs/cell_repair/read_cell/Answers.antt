use Rattle.std.proofs.Common.{Ok}
use Rattle.cell_device.specs.Time.{LeavesOnly}
use Rattle.book.proofs.Commits.{leaves_text, recovers}
use Rattle.book.specs.Opened.{LeavesAlike}
use Rattle.book.specs.OpenBooks.{ReadSays}
use Rattle.book.proofs.Alike.{said_seen, repaired}
use Rattle.book.proofs.cell_repair.read_cell.Given.{Over}
use Rattle.book.proofs.cell_repair.read_cell.Goals.{After-header, After-repair}
use Rattle.book.proofs.cell_repair.read_cell.Goals as goal

-- what was read says the journal's records
says : (g : Over) (c : After-header g)
    → ReadSays c.args.owner.now (g.C.Cell.device c.args.cell.now).image
    (Ok c.in_ok-journal.journal.records.items)
says g c =
    said_seen c.args.owner.now (g.C.Cell.device c.args.cell.now).image c.in_ok-bytes.bytes.items
    c.deref.result.now c.in_ok-journal.journal.records.items c.in_ok-bytes.ensures.read
    c.deref.ensures.value c.in_ok-journal.ensures.said

-- whatever the repair came to
leaves : (g : Over) (c : After-repair g)
    → LeavesOnly (g.C.Cell.device c.args.cell.now) (g.C.Cell.device c.repair.new.cell)
    (LeavesAlike c.args.owner.now (g.C.Cell.device c.args.cell.now).image)
leaves g c =
    repaired c.args.owner.now g.C.Cell.device g.met.C.Cell.only_now c.args.cell.now
    c.in_ok-bytes.bytes c.in_ok-sync.field-0 c.load.new.self c.sync.new.self c.repair.new.cell
    c.in_ok-journal.journal.records.items (says g (goal.at.After-repair g c).After-header)
    c.in_ok-bytes.ensures.does c.in_ok-sync.ensures.does c.repair.ensures.any_moment

pub returns-clause-durable : goal.returns-clause-durable
returns-clause-durable g c =
    leaves_text c.args.owner.now c.in_ok-journal.journal.records.items
    (g.C.Cell.device c.repair.new.cell).image c.in_ok-repair.ensures.repaired

pub returns-in_err-repair-clause-any_moment : goal.returns-in_err-repair-clause-any_moment
returns-in_err-repair-clause-any_moment g c =
    leaves g (goal.at.returns-in_err-repair-clause-any_moment g c).After-repair

pub returns-clause-any_moment : goal.returns-clause-any_moment
returns-clause-any_moment g c = leaves g (goal.at.returns-clause-any_moment g c).After-repair

pub returns-clause-recovers : goal.returns-clause-recovers
returns-clause-recovers g c =
    recovers c.args.owner.now c.in_ok-journal.journal.records.items
    (g.C.Cell.device c.repair.new.cell).image c.in_ok-repair.ensures.repaired
