use Rattle.bag_check.proofs.ValidLaws.{is_valid, is_only}
use Rattle.bag_check.proofs.check_bag.check.Goals as goal

pub returns-clause-valid : goal.returns-clause-valid
returns-clause-valid c =
    is_valid c.args.facts.now c.identity_or_fault.result c.identity_or_fault.ensures

pub returns-clause-only : goal.returns-clause-only
returns-clause-only c =
    is_only c.args.facts.now c.identity_or_fault.result c.identity_or_fault.ensures
