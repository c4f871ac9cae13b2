use Rattle.sealing_law.proofs.Forged.{a_forged_known_is_dropped}
use Rattle.sealing_law.proofs.examples.a_forged_known_is_dropped.Goals as goal

pub returns : goal.returns
returns c = a_forged_known_is_dropped
