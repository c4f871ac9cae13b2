use Rattle.bag_folders.proofs.Shown.{valid_shows_none, fault_shows}
use Rattle.bag_folders.proofs.first_look.shows_fault.Goals as goal

pub returns-in-Ok : goal.returns-in-Ok
returns-in-Ok c =
    valid_shows_none c.args.facts.now c.in-Ok.field-0 c.in-Ok.ensures.exact

pub returns-in-Err : goal.returns-in-Err
returns-in-Err c =
    fault_shows c.args.facts.now c.in-Err.fault c.shows.result c.in-Err.ensures.exact
    c.shows.ensures.ok c.shows.ensures.memory
