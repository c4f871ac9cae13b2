use Rattle.world_law.proofs.Promised.{lines_stay, reports_were_deposited}
use Rattle.world_law.proofs.law.reports_were_deposited.Goals as goal

pub returns-clause-deposited : goal.returns-clause-deposited
returns-clause-deposited c = reports_were_deposited

pub returns-clause-lines : goal.returns-clause-lines
returns-clause-lines c = lines_stay
