use Rattle.std.proofs.Common.{map}
use Rattle.bag_text.proofs.LineLaws.{lines_of-ended}
use Rattle.bag_text.proofs.line.lines.Goals as goal

pub returns-clause-lines : goal.returns-clause-lines
returns-clause-lines c =
    lines_of-ended c.loop-rest.rest.now
    (map (λ line. line.now) c.loop-rest.found.items) _ c.loop-rest-test.ensures
    c.loop-rest.invariant
