use Rattle.std.proofs.Common.{arith}
use Rattle.std.proofs.lemmas.List.{length-take-le}
use Rattle.fed_types.proofs.members.Members.weights.Goals as goal

pub returns-clause-in_range : goal.returns-clause-in_range
returns-clause-in_range c =
    let held = c.self.invariant in
    let known = length-take-le c.self.inside.count c.self.inside.weights
    (omega (arith, held.0.1, c.self.told)) in
    rw c.from.ensures (rw known held.0, held.1)
