use Rattle.world_law.proofs.WellFormed.{new_is_well_formed, run_well_formed}
use Rattle.world_law.proofs.law.sent_messages_are_well_formed.Goals as goal

pub returns : goal.returns
returns c = λ q events members h d has.
    (run_well_formed q events _ members h new_is_well_formed).sent d has
