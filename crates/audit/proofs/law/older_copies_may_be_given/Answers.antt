use Rattle.audit.proofs.Copies.{older}
use Rattle.audit.proofs.law.older_copies_may_be_given.Goals as goal

pub returns : goal.returns
returns c = older
