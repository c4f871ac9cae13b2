use Rattle.reach_law.proofs.ThreeSites.{can_be_undisturbed}
use Rattle.reach_law.proofs.examples.a_ballot_may_be_undisturbed.Goals as goal

pub returns : goal.returns
returns c = can_be_undisturbed
