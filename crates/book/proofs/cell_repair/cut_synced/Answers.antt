use Rattle.book.proofs.LeftBehind.{untouched, cut, cut_synced}
use Rattle.book.proofs.cell_repair.cut_synced.Goals as goal

pub returns-then-len-bytes-clause-any_moment : goal.returns-then-len-bytes-clause-any_moment
returns-then-len-bytes-clause-any_moment g c =
    untouched g.C.Cell.device g.met.C.Cell.only_now c.args.cell.now c.args.bytes.now
    c.requires.rest c.args.len c.requires.in_range

pub returns-in_err-cut-clause-any_moment : goal.returns-in_err-cut-clause-any_moment
returns-in_err-cut-clause-any_moment g c =
    cut g.C.Cell.device g.met.C.Cell.only_now c.args.cell.now c.args.bytes.now c.requires.rest
    c.args.len c.requires.in_range c.cut.result c.cut.new.self c.cut.ensures.does

pub returns-clause-any_moment : goal.returns-clause-any_moment
returns-clause-any_moment g c =
    cut_synced g.C.Cell.device g.met.C.Cell.only_now c.args.cell.now c.args.bytes.now
    c.requires.rest c.args.len c.requires.in_range c.in_ok-cut.field-0 c.sync.result c.cut.new.self
    c.sync.new.self c.in_ok-cut.ensures.does c.sync.ensures.does
