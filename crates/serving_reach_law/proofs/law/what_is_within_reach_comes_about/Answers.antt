use Rattle.serving_reach_law.proofs.Answered.{comes_about}
use Rattle.serving_reach_law.proofs.law.what_is_within_reach_comes_about.Goals as goal

pub returns : goal.returns
returns g c = λ members. comes_about _ members
