use Rattle.book.proofs.Prefixes.{all_but_these}
use Rattle.book.proofs.law.all_but_those_of_a_batch_outlive_a_crash.Goals as goal

pub returns : goal.returns
returns c = all_but_these
