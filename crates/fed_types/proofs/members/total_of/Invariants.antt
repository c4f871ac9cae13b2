use Rattle.std.proofs.Common.{◌≡◌, ◌≤◌, ◌*◌, ◌-◌, slice_index}
use Rattle.std.specs.List.{sum_by}
use Rattle.fed_types.specs.Sites.{sites_to}
use Rattle.fed_types.proofs.members.total_of.Given as goal

abbrev pub invariant-loop-weight : goal.invariant-loop-weight
invariant-loop-weight l =
    (l.total ≡ sum_by (λ site. slice_index l.fn.weights (site - 1)) (sites_to l.weight-index))
    × (l.total ≤ 255 * l.weight-index)
