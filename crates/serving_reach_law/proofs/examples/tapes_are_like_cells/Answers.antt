use Rattle.serving_reach_law.proofs.TapeJournals.{are_like_cells}
use Rattle.serving_reach_law.proofs.examples.tapes_are_like_cells.Goals as goal

pub returns : goal.returns
returns c = are_like_cells
