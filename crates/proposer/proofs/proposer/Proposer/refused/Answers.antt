use Rattle.proposer.proofs.Stands.{refused_stands}
use Rattle.proposer.proofs.proposer.Proposer.refused.Goals as goal

pub returns-clause-heard : goal.returns-clause-heard
returns-clause-heard g c from asked records volatile under stands =
    refused_stands c.args.self.now.rows c.self.inside.table c.refuse_in.new.table c.args.slot.now
    c.round.result from asked c.args.standing records volatile under
    (λ s. rw (← c.self.view_is) at (c.reserve.ensures.same s))
    c.refuse_in.ensures c.round.ensures.value stands
