use Rattle.world_law.proofs.Runs.{run_kept, happens_kept}
use Rattle.world_law.proofs.law.senders_are_named.Goals as goal

pub returns : goal.returns
returns c = λ q events e laws d h. (happens_kept q laws _ (run_kept q laws events) e).names d h
