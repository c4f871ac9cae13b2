use Rattle.book.proofs.Unsynced.{all_but_the_last}
use Rattle.book.proofs.law.all_but_the_last_outlive_a_crash.Goals as goal

pub returns : goal.returns
returns c = all_but_the_last
