use Rattle.catch_up.proofs.Paces.{is_late, goes_on}
use Rattle.catch_up.proofs.next_round.waits_for_round.Goals as goal

pub returns-then-is_over : goal.returns-then-is_over
returns-then-is_over g c =
    is_late c.args.seconds c.args.pauses _ _ _ c.is_over.ensures c.if-is_over.true

pub returns : goal.returns
returns g c =
    goes_on c.args.seconds c.args.pauses _ _ _ _ _ c.is_over.ensures c.if-is_over.false
    c.pause_after.ensures c.pause.ensures
