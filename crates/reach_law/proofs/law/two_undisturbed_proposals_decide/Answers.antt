use Rattle.reach_law.proofs.TwoProposals.{two_decide}
use Rattle.reach_law.proofs.law.two_undisturbed_proposals_decide.Goals as goal

pub returns : goal.returns
returns c = two_decide
