use Rattle.world_law.proofs.Promised.{lines_agree}
use Rattle.world_law.proofs.law.lines_agree.Goals as goal

pub returns : goal.returns
returns c = lines_agree
