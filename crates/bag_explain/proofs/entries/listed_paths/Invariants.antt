use Rattle.std.proofs.Common.{◌≡◌, ℕ, List, take}
use Rattle.bag_check.specs.Manifests.{is_listed}
use Rattle.bag_check.proofs.Keyed.{has_text}
use Rattle.bag_explain.specs.Places.{files_in}
use Rattle.bag_explain.proofs.entries.listed_paths.Given as goal

-- the set has the paths that were listed so far
abbrev pub invariant-loop-entry : goal.invariant-loop-entry
invariant-loop-entry l = (q : List ℕ)
    → has_text q l.listed ≡ is_listed q (files_in (take l.entry-index l.entries))
