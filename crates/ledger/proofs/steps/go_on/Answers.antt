use Rattle.ledger.proofs.ToldParts.{told_more, damaged_part}
use Rattle.ledger.proofs.steps.go_on.Goals as goal

pub returns-then-more : goal.returns-then-more
returns-then-more c = λ taken told given.
    damaged_part c.args.owner.now c.args.passed c.args.bytes.now taken told given
    c.in_ok-more.more c.in_ok-more.ensures c.in_ok-last_after.field-0 c.if-more.true
    c.in_ok-last_after.ensures

pub returns : goal.returns
returns c = λ taken told given.
    told_more c.args.owner.now c.args.passed c.args.bytes.now taken told given
    c.in_ok-more.more c.in_ok-more.ensures c.in_ok-keep_after.field-0
    c.in_ok-keep_after.ensures
