use Rattle.serving_law.proofs.Forgeries.{fooled_by_a_forged_known}
use Rattle.serving_law.proofs.examples.fooled_by_a_forged_known.Goals as goal

pub returns : goal.returns
returns c = fooled_by_a_forged_known
