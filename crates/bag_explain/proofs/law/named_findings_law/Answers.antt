use Rattle.bag_explain.proofs.NamedFindings.{findings_named, explanation_named, findings_kept}
use Rattle.bag_explain.proofs.law.named_findings_law.Goals as goal

pub returns-clause-findings : goal.returns-clause-findings
returns-clause-findings c = findings_named

pub returns-clause-explanation : goal.returns-clause-explanation
returns-clause-explanation c = explanation_named

pub returns-clause-facts : goal.returns-clause-facts
returns-clause-facts c = findings_kept
