use Rattle.std.proofs.Common.{◌≡◌, map, take}
use Rattle.std.specs.String.{string_bytes}
use Rattle.registered_checks.proofs.notes.are_paths.Given as goal

-- the paths so far are the same
abbrev pub invariant-loop-i : goal.invariant-loop-i
invariant-loop-i l =
    take l.i (map string_bytes l.noted) ≡ take l.i (map (λ path. path.now) l.paths)
