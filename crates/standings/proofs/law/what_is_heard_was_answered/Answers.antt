use Rattle.standings.proofs.Handed.{was_answered, sites_stay}
use Rattle.standings.proofs.law.what_is_heard_was_answered.Goals as goal

pub returns-clause-answered : goal.returns-clause-answered
returns-clause-answered c = was_answered

pub returns-clause-sites : goal.returns-clause-sites
returns-clause-sites c = sites_stay
