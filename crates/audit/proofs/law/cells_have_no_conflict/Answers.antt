use Rattle.audit.proofs.Shown.{no_conflict}
use Rattle.audit.proofs.law.cells_have_no_conflict.Goals as goal

pub returns : goal.returns
returns c = λ q events given laws are. no_conflict q laws events given are
