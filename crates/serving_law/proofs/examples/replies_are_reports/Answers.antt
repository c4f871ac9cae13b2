use Rattle.serving_law.proofs.Shown.{replies_are_reports}
use Rattle.serving_law.proofs.examples.replies_are_reports.Goals as goal

pub returns : goal.returns
returns c = replies_are_reports
