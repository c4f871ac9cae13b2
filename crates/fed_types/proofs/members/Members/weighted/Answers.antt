use Rattle.std.proofs.Common.{◌≤◌, length, arith}
use Rattle.std.proofs.lemmas.Bool.Decides.{nat_tests}
use Rattle.fed_types.proofs.Weights.{are_weights, made_weights}
use Rattle.fed_types.proofs.members.Members.weighted.Goals as goal

pub invariant_of-result : goal.invariant_of-result
invariant_of-result c =
    let some : 1 ≤ length c.args.weights.now =
    grind (arith, nat_tests, c.is_empty.ensures, c.if-is_empty.false) in
    rw c.copy_from_slice.ensures.after (
    made_weights c.args.weights.now c.total_of.result (some, omega arith)
    (are_weights c.args.weights.now (λ k. omega (arith, c.type_inv.weights k))
    (rw c.contains.ensures.value at c.if-contains.false)) c.total_of.ensures)
