use Rattle.batch_law.proofs.Crashes.{crashes}
use Rattle.batch_law.proofs.law.crashes_leave_first_records.Goals as goal

pub returns : goal.returns
returns g c = crashes _
