use Rattle.audit.proofs.Shown.{shown_is_chosen}
use Rattle.audit.proofs.law.what_cells_show_is_chosen.Goals as goal

pub returns : goal.returns
returns c = shown_is_chosen
