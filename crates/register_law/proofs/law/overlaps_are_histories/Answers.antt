use Rattle.register_law.proofs.Overlapping.{overlaps_are_histories}
use Rattle.register_law.proofs.law.overlaps_are_histories.Goals as goal

pub returns : goal.returns
returns g c = λ members. overlaps_are_histories _ members
