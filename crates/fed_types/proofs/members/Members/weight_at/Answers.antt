use Rattle.std.proofs.Common.{◌-◌}
use Rattle.fed_types.proofs.Weights.{padded_at}
use Rattle.fed_types.proofs.members.Members.weight_at.Goals as goal

pub returns : goal.returns
returns c =
    rw (← c.self.view_is, ← c.from.ensures)
    (padded_at c.self.inside.count c.self.inside.weights (c.from.result - 1)
    c.self.invariant.0.1 c.self.invariant.2)
