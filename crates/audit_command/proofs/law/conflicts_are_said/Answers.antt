use Rattle.audit_command.proofs.Conflicts.{said}
use Rattle.audit_command.proofs.law.conflicts_are_said.Goals as goal

pub returns : goal.returns
returns c = said
