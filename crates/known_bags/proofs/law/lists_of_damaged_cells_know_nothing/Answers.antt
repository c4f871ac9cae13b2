use Rattle.known_bags.proofs.Damage.{none_of_damage}
use Rattle.known_bags.proofs.law.lists_of_damaged_cells_know_nothing.Goals as goal

pub returns : goal.returns
returns c = λ bytes bags knows list. none_of_damage bytes bags knows list
