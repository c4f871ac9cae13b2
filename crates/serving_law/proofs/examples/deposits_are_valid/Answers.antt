use Rattle.serving_law.proofs.Shown.{deposits_are_valid}
use Rattle.serving_law.proofs.examples.deposits_are_valid.Goals as goal

pub returns : goal.returns
returns c = deposits_are_valid
