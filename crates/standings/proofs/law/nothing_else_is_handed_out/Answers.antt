use Rattle.standings.proofs.Handed.{nothing_else}
use Rattle.standings.proofs.law.nothing_else_is_handed_out.Goals as goal

pub returns : goal.returns
returns c = nothing_else
