use Rattle.register_law.proofs.Runs.{new_cells_are_left_by_none}
use Rattle.register_law.proofs.law.new_cells_are_left_by_none.Goals as goal

pub returns : goal.returns
returns g c = λ members. new_cells_are_left_by_none _ members
