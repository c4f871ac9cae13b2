use Rattle.process_law.proofs.Accounts.{accounts_go_on}
use Rattle.process_law.proofs.law.accounts_go_on.Goals as goal

pub returns : goal.returns
returns c = λ members. accounts_go_on members
