use Rattle.serving_law.proofs.DiskJournals.{are_like_cells}
use Rattle.serving_law.proofs.examples.disks_are_like_cells.Goals as goal

pub returns : goal.returns
returns c = are_like_cells
