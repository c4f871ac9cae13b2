use Rattle.reach_law.proofs.TwoOfThree.{can_be_undisturbed_by_two}
use Rattle.reach_law.proofs.examples.a_ballot_of_two_may_be_undisturbed.Goals as goal

pub returns : goal.returns
returns c = can_be_undisturbed_by_two
