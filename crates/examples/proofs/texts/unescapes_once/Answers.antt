use Rattle.std.specs.Prelude.{codes}
use Rattle.bag_text.specs.Paths.{unescaped}
use Rattle.examples.proofs.texts.unescapes_once.Goals as goal

pub returns : goal.returns
unfolding unescaped
returns c = c.escape_law.ensures (codes "data/%0A")
