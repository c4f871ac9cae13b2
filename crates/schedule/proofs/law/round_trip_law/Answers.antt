use Rattle.schedule.proofs.PrintedLines.{plan_of-schedule_text}
use Rattle.schedule.proofs.RangeLemmas.{IsPlan-plan_of}
use Rattle.schedule.proofs.law.round_trip_law.Goals as goal

pub returns-clause-again : goal.returns-clause-again
returns-clause-again c = λ plan is. plan_of-schedule_text plan is

pub returns-clause-in_range : goal.returns-clause-in_range
returns-clause-in_range c = λ text plan is. IsPlan-plan_of text plan is
