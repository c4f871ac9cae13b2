use Rattle.std.proofs.Common.{◌≡◌, ◌++◌, take}
use Rattle.std.specs.List.{flat_map}
use Rattle.std.specs.String.{string_bytes}
use Rattle.ledger.specs.Lines.{weight_word}
use Rattle.ledger.proofs.cell_text.push_weights.Given as goal

-- what was appended so far
abbrev pub invariant-loop-weight : goal.invariant-loop-weight
invariant-loop-weight l =
    string_bytes l.text
    ≡ string_bytes l.initial.text ++ flat_map weight_word (take l.weight-index l.weights)
