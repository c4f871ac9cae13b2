use Rattle.bag_explain.proofs.ExactPlaces.{places_exact}
use Rattle.bag_explain.proofs.OncePlaces.{places_once}
use Rattle.bag_explain.proofs.law.places_law.Goals as goal

pub returns-clause-placed : goal.returns-clause-placed
returns-clause-placed c = places_exact

pub returns-clause-once : goal.returns-clause-once
returns-clause-once c = places_once
