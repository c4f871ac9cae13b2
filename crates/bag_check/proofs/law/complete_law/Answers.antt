use Rattle.bag_check.proofs.CompleteLaws.{valid_complete, complete_valid}
use Rattle.bag_check.proofs.law.complete_law.Goals as goal

pub returns : goal.returns
returns c =
    λ facts. (valid_complete facts, λ complete. complete_valid facts complete.0 complete.1)
