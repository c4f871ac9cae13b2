use Rattle.bag_text.proofs.PathLaws.{unescaped-ended}
use Rattle.bag_text.proofs.path.unescaped.Goals as goal

pub returns : goal.returns
returns c =
    unescaped-ended c.loop-byte.rest.now c.loop-byte.path.items _ c.in_default.ensures.value
    c.loop-byte.invariant
