use Rattle.std.proofs.Common.{refl}
use Rattle.deposit_list.proofs.Asking.{none_fresh, one_fresh}
use Rattle.deposit_list.proofs.rounds.fresh.Goals as goal

pub loop-deposit-init : goal.loop-deposit-init
loop-deposit-init c = rw c.new-entries.ensures.items none_fresh

pub loop-deposit-preserved : goal.loop-deposit-preserved
loop-deposit-preserved c =
    rw c.in_ok-push.ensures.items (one_fresh c.args.window.now c.loop-deposit.deposit-index
    c.deposit-item.result c.loop-deposit.entries.items _ c.loop-deposit-test.true
    c.deposit-item.is refl c.loop-deposit.invariant)
