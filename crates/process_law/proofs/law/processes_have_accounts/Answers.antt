use Rattle.process_law.proofs.Accounts.{processes_have_accounts}
use Rattle.process_law.proofs.law.processes_have_accounts.Goals as goal

pub returns : goal.returns
returns g c = λ members. processes_have_accounts _ members g.met.C.Cell.only_now
