use Rattle.world_law.proofs.Runs.{run_kept}
use Rattle.world_law.proofs.law.votes_were_asked_for.Goals as goal

pub returns-clause-asked : goal.returns-clause-asked
returns-clause-asked c = λ q events laws n slot vote k. (run_kept q laws events).records n slot _ k

pub returns-clause-on_record : goal.returns-clause-on_record
returns-clause-on_record c = λ q events laws n slot vote s.
    (run_kept q laws events).sent _ s.is_sent
