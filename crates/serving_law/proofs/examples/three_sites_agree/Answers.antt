use Rattle.serving_law.proofs.Agreed.{three_sites_agree}
use Rattle.serving_law.proofs.examples.three_sites_agree.Goals as goal

pub returns : goal.returns
returns c = three_sites_agree
