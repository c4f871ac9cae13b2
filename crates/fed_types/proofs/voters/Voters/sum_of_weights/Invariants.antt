use Rattle.std.proofs.Common.{◌≡◌, ◌+◌, length}
use Rattle.fed_types.specs.Lists.{is_in}
use Rattle.fed_types.specs.Sites.{weight_of}
use Rattle.fed_types.proofs.Ones.{AreSites, has_one}
use Rattle.fed_types.proofs.Sums.{among}
use Rattle.fed_types.proofs.voters.Voters.sum_of_weights.Given as goal

abbrev pub invariant-loop-rest : goal.invariant-loop-rest
invariant-loop-rest l =
    AreSites l.rest
    × (among (weight_of l.members) (is_in l.self) (length l.members.weights)
    ≡ l.sum + among (weight_of l.members) (has_one l.rest) (length l.members.weights))

abbrev pub decreases-loop-rest : goal.decreases-loop-rest
decreases-loop-rest l = l.rest
