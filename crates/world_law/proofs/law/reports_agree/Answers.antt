use Rattle.world_law.proofs.Reports.{reports_of_a_run}
use Rattle.world_law.proofs.Runs.{run_kept, happens_kept}
use Rattle.world_law.proofs.law.reports_agree.Goals as goal

pub returns-clause-chosen : goal.returns-clause-chosen
returns-clause-chosen c = λ q events e laws notice r is reports.
    (happens_kept q laws _ (run_kept q laws events) e).reports.chosen notice r is reports

pub returns-clause-agree : goal.returns-clause-agree
returns-clause-agree c = λ q events laws. reports_of_a_run q laws events
