use Rattle.serving_law.proofs.Restarted.{restarted_sites_report}
use Rattle.serving_law.proofs.examples.restarted_sites_report.Goals as goal

pub returns : goal.returns
returns c = restarted_sites_report
