use Rattle.reach_law.proofs.OtherVersions.{undisturbed_by_others}
use Rattle.reach_law.proofs.examples.others_disturb_no_ballot.Goals as goal

pub returns : goal.returns
returns c = undisturbed_by_others
