use Rattle.bag_check.proofs.CompleteLaws.{complete_valid_too, complete_despite}
use Rattle.bag_check.proofs.check_bag.check_complete.Goals as goal

pub returns-in-Ok : goal.returns-in-Ok
returns-in-Ok c = complete_valid_too c.args.facts.now c.in-Ok.bag c.in-Ok.ensures

pub returns-in-Err : goal.returns-in-Err
returns-in-Err c =
    complete_despite c.args.facts.now c.in-Err.fault c.identity_despite.result c.in-Err.ensures
    c.identity_despite.ensures
