use Rattle.register_law.proofs.Cells.{chosen_is_all_that_is_reported}
use Rattle.register_law.proofs.law.chosen_is_all_that_is_reported.Goals as goal

pub returns : goal.returns
returns g c = λ members. chosen_is_all_that_is_reported _ members g.met.C.Cell.only_now
