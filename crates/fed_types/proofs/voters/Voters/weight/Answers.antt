use Rattle.std.proofs.Common.{arith}
use Rattle.fed_types.specs.Lists.{is_in}
use Rattle.fed_types.specs.Sites.{count_of, weight_of}
use Rattle.fed_types.proofs.Numbers.{weigh_one}
use Rattle.fed_types.proofs.Weights.{weight_least, weigh_most}
use Rattle.fed_types.proofs.voters.Voters.weight.Goals as goal

pub returns-then-total_weight-from-clause-value : goal.returns-then-total_weight-from-clause-value
returns-then-total_weight-from-clause-value c =
    let weights = rw c.weights-weights.ensures.value at c.weights-weights.ensures.in_range in
    let one = weigh_one (weight_of c.args.members.now) (is_in c.args.self.now)
    (count_of c.args.members.now) (weight_least c.args.members.now weights) (omega arith) in
    rw (one, ← c.count-then-total_weight-from.ensures.value) c.number_to.ensures

pub returns-then-total_weight-from-clause-most : goal.returns-then-total_weight-from-clause-most
returns-then-total_weight-from-clause-most c =
    let weights = rw c.weights-weights.ensures.value at c.weights-weights.ensures.in_range in
    rw (returns-then-total_weight-from-clause-value c)
    (weigh_most c.args.members.now (is_in c.args.self.now) weights)
