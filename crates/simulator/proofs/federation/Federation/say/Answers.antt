use Rattle.std.proofs.Common.{refl}
use Rattle.simulator.proofs.Stands.{stands_saying}
use Rattle.simulator.proofs.federation.Federation.say.Goals as goal

pub returns : goal.returns
returns c w is = stands_saying _ refl c.in_ok-push.ensures.items is
