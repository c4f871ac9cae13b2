use Rattle.std.proofs.Common.{length}
use Rattle.code_words.proofs.schedule_command.+push_first_fault.Given as goal

abbrev pub decreases-push_first_fault : goal.decreases-push_first_fault
decreases-push_first_fault l = length l.kinds.now
