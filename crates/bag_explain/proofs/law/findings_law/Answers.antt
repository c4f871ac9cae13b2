use Rattle.bag_explain.proofs.LineLaws.{listed_by_line}
use Rattle.bag_explain.proofs.FaultTests.{placed}
use Rattle.bag_explain.proofs.FindingLaws.{sound, first, none_valid, valid_none}
use Rattle.bag_explain.proofs.law.findings_law.Goals as goal

pub returns-clause-placed : goal.returns-clause-placed
returns-clause-placed c = placed

pub returns-clause-sound : goal.returns-clause-sound
returns-clause-sound c = sound

pub returns-clause-first : goal.returns-clause-first
returns-clause-first c = first

pub returns-clause-valid : goal.returns-clause-valid
returns-clause-valid c = λ facts. (valid_none facts, none_valid facts)

pub returns-clause-listed : goal.returns-clause-listed
returns-clause-listed c = listed_by_line
