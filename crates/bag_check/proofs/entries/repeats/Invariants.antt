use Rattle.std.proofs.Common.{◌≡◌, ℕ, false, List, take}
use Rattle.bag_check.specs.Manifests.{is_listed}
use Rattle.bag_check.specs.Check.{repeats}
use Rattle.bag_check.proofs.Keyed.{has_text}
use Rattle.bag_check.proofs.entries.repeats.Given as goal

-- the set has the paths that were listed so far, and none of them twice
abbrev pub invariant-loop-entry : goal.invariant-loop-entry
invariant-loop-entry l = record {
  seen : (q : List ℕ) → has_text q l.seen ≡ is_listed q (take l.entry-index l.entries);
  once : repeats (take l.entry-index l.entries) ≡ false;
}
