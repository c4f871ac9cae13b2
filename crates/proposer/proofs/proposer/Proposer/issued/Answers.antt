use Rattle.proposer.proofs.Issued.{issued_stands}
use Rattle.proposer.proofs.proposer.Proposer.issued.Goals as goal

pub returns-clause-heard : goal.returns-clause-heard
returns-clause-heard g c records volatile under stands =
    issued_stands c.self.inside.table c.issue_in.new.table c.args.slot.now records volatile under
    c.issue_in.ensures.issued
    (rw (← c.self.view_is) at stands)
