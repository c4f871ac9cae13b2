use Rattle.site.proofs.Batched.{still_batch}
use Rattle.site.proofs.batch.Batch.recover.Goals as goal

pub invariant_of-self-2 : goal.invariant_of-self-2
invariant_of-self-2 g c =
    let is = c.self.invariant in
    still_batch g.C.Cell.device _ is c.recover-answer.new.self
    _ _ c.recover-answer.result
    (c.recover-answer.ensures.answer is.waits is.volatile.0 is.volatile.1)
