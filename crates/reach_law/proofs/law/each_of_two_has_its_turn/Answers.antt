use Rattle.reach_law.proofs.OfTwo.{each_of_two}
use Rattle.reach_law.proofs.law.each_of_two_has_its_turn.Goals as goal

pub returns : goal.returns
returns c = each_of_two
