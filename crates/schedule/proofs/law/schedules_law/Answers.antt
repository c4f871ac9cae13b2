use Rattle.schedule.proofs.FaultLemmas.{plan_of-fault, HasFault-plan_of}
use Rattle.schedule.proofs.ScheduleLemmas.{plan_of-from, IsTextOf-plan_of}
use Rattle.schedule.proofs.law.schedules_law.Goals as goal

pub returns-clause-schedules : goal.returns-clause-schedules
returns-clause-schedules c = λ text plan. (plan_of-from text plan, IsTextOf-plan_of text plan)

pub returns-clause-faults : goal.returns-clause-faults
returns-clause-faults c = λ text number. (plan_of-fault text number, HasFault-plan_of text number)
