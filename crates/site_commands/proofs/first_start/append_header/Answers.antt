use Rattle.site_commands.proofs.BegunCells.{appended, appended_synced}
use Rattle.site_commands.proofs.first_start.append_header.Goals as goal

pub returns-in_err-append-clause-any_moment : goal.returns-in_err-append-clause-any_moment
returns-in_err-append-clause-any_moment g c =
    appended c.args.header.now g.C.Cell.device g.met.C.Cell.only_now c.args.cell.now
    c.append.result c.append.new.self c.requires.none c.append.ensures.does

pub returns-clause-any_moment : goal.returns-clause-any_moment
returns-clause-any_moment g c =
    appended_synced c.args.header.now g.C.Cell.device g.met.C.Cell.only_now c.args.cell.now
    c.in_ok-append.field-0 c.sync.result c.append.new.self c.sync.new.self c.requires.none
    c.in_ok-append.ensures.does c.sync.ensures.does
