use Rattle.sealing_law.proofs.HandedOn.{handed_on_may_come}
use Rattle.sealing_law.proofs.law.handed_on_may_come.Goals as goal

pub returns : goal.returns
returns c = handed_on_may_come
