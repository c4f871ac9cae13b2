use Rattle.register_law.proofs.DecidedOnce.{a_register_is_decided}
use Rattle.register_law.proofs.examples.a_register_is_decided.Goals as goal

pub returns : goal.returns
returns c = a_register_is_decided
