use Rattle.ledger.proofs.ToldParts.{lasts}
use Rattle.ledger.proofs.steps.last_part.Goals as goal

pub returns : goal.returns
returns c =
    lasts c.args.owner.now c.args.passed c.args.bytes.now c.in_ok-more.more
    c.in_ok-more.ensures c.last_after.result c.last_after.ensures
