use Rattle.batch_law.proofs.Synced.{synced}
use Rattle.batch_law.proofs.law.synced_are_records.Goals as goal

pub returns : goal.returns
returns g c = synced _
