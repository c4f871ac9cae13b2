use Rattle.std.proofs.Common.{arith}
use Rattle.fed_types.specs.Lists.{is_in}
use Rattle.fed_types.specs.Sites.{count_of, weight_of}
use Rattle.fed_types.proofs.Ones.{lowest, sites_first, sites_next, counted_first, counted_next}
use Rattle.fed_types.proofs.Ones.{counted_none, less_next}
use Rattle.fed_types.proofs.Weights.{weight_past, weigh_most}
use Rattle.fed_types.proofs.voters.Voters.sum_of_weights.Goals as goal

pub loop-rest-init : goal.loop-rest-init
loop-rest-init c =
    let weights = rw c.weights-weights.ensures.value at c.weights-weights.ensures.in_range in (
      sites_first c.self.inside.word c.self.invariant,
      rw (← c.self.view_is)
          (counted_first (weight_of c.args.members.now) c.self.inside.word
          (count_of c.args.members.now) (omega (arith, weights.0.1))),
    )

pub weight_at-requires : goal.weight_at-requires
weight_at-requires c =
    let k = lowest c.loop-rest.rest (omega arith) c.loop-rest.invariant.0 in (k.0, omega arith)

pub overflow_add-sum : goal.overflow_add-sum
overflow_add-sum c =
    let weights = rw c.weights-weights.ensures.value at c.weights-weights.ensures.in_range in
    let most = weigh_most c.args.members.now (is_in c.args.self.now) weights in
    let next = counted_next (weight_of c.args.members.now) c.loop-rest.rest
    (count_of c.args.members.now) (omega arith) c.loop-rest.invariant.0
    (weight_past c.args.members.now) in
    omega (arith, c.loop-rest.invariant.1, c.from-sum.ensures, c.weight_at.ensures)

pub loop-rest-smaller : goal.loop-rest-smaller
loop-rest-smaller c = less_next c.loop-rest.rest (omega arith)

pub loop-rest-preserved : goal.loop-rest-preserved
loop-rest-preserved c =
    let next = counted_next (weight_of c.args.members.now) c.loop-rest.rest
    (count_of c.args.members.now) (omega arith) c.loop-rest.invariant.0
    (weight_past c.args.members.now) in (
      sites_next c.loop-rest.rest c.loop-rest.invariant.0,
      omega (arith, c.loop-rest.invariant.1, c.from-sum.ensures, c.weight_at.ensures),
    )

pub returns-clause-value : goal.returns-clause-value
returns-clause-value c =
    let all = rw c.loop-rest-test.false at c.loop-rest.invariant.1 in
    omega (arith, counted_none (weight_of c.args.members.now) (count_of c.args.members.now))

pub returns-clause-most : goal.returns-clause-most
returns-clause-most c =
    let weights = rw c.weights-weights.ensures.value at c.weights-weights.ensures.in_range in
    let most = weigh_most c.args.members.now (is_in c.args.self.now) weights in
    omega (arith, c.loop-rest.invariant.1)
