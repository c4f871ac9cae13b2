use Rattle.std.proofs.Common.{◌≡◌, ◌++◌, take, string_bytes}
use Rattle.schedule.specs.inner.Printed.{spaced_weights}
use Rattle.schedule.proofs.print_federation.push_weights.Given as goal

-- the weights so far are printed
abbrev pub invariant-loop-weight : goal.invariant-loop-weight
invariant-loop-weight l =
    string_bytes l.text ≡ string_bytes l.fn.text ++ spaced_weights (take l.weight-index l.weights)
