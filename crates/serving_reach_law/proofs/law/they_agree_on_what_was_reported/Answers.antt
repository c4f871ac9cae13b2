use Rattle.serving_reach_law.proofs.Reaching.{they_agree}
use Rattle.serving_reach_law.proofs.law.they_agree_on_what_was_reported.Goals as goal

pub returns : goal.returns
returns g c = λ members running history slot bag h f n agree has reports runs.
    they_agree members running history slot bag h f n agree has reports runs
