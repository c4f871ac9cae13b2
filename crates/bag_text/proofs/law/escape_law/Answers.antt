use Rattle.bag_text.proofs.PathLaws.{unescaped-escaped}
use Rattle.bag_text.proofs.law.escape_law.Goals as goal

pub returns : goal.returns
returns c = unescaped-escaped
