use Rattle.book.proofs.OneRecord.{is_commit}
use Rattle.book.proofs.law.a_batch_of_one_is_a_commit.Goals as goal

pub returns : goal.returns
returns g c = λ old new r result. is_commit g.C.Cell.device old new r result
