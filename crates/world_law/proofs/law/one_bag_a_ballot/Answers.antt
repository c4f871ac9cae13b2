use Rattle.world_law.proofs.Runs.{run_kept}
use Rattle.world_law.proofs.law.one_bag_a_ballot.Goals as goal

pub returns : goal.returns
returns c = λ q events laws slot u v g h e.
    (run_kept q laws events).one slot v.ballot u.bag v.bag
    (rw (← e) g) h
