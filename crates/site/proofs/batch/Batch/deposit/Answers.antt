use Rattle.site.proofs.Batched.{still_batch}
use Rattle.site.proofs.batch.Batch.deposit.Goals as goal

pub invariant_of-self-2 : goal.invariant_of-self-2
invariant_of-self-2 g c =
    let is = c.self.invariant in
    still_batch g.C.Cell.device _ is c.deposit-answer.new.self
    _ _ c.deposit-answer.result
    (c.deposit-answer.ensures.answer is.waits is.volatile.0 is.volatile.1)
