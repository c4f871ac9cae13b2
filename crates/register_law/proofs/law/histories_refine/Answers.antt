use Rattle.register_law.proofs.Refined.{histories_refine}
use Rattle.register_law.proofs.law.histories_refine.Goals as goal

pub returns : goal.returns
returns g c = λ members. histories_refine _ members g.met.C.Cell.only_now
