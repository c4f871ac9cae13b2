use Rattle.bag_explain.proofs.AllFindings.{found_exact}
use Rattle.bag_explain.proofs.FindingOrder.{findings_order, findings_once}
use Rattle.bag_explain.proofs.law.all_found_law.Goals as goal

pub returns-clause-found : goal.returns-clause-found
returns-clause-found c = found_exact

pub returns-clause-order : goal.returns-clause-order
returns-clause-order c = findings_order

pub returns-clause-once : goal.returns-clause-once
returns-clause-once c = findings_once
