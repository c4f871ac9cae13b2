use Rattle.register_law.proofs.CarriedOn.{carried_sites_report}
use Rattle.register_law.proofs.examples.carried_sites_report.Goals as goal

pub returns : goal.returns
returns c = carried_sites_report
