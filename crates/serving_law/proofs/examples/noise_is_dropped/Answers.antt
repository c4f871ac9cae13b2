use Rattle.serving_law.proofs.Shown.{noise_is_dropped}
use Rattle.serving_law.proofs.examples.noise_is_dropped.Goals as goal

pub returns : goal.returns
returns c = noise_is_dropped
