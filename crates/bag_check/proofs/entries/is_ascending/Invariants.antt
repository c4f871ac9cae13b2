use Rattle.std.proofs.Common.{◌≡◌, ℕ, true, false, List, take}
use denote.Text.{Utf8}
use denote.Shadow.{shadow}
use Rattle.bag_check.specs.Manifests.{is_listed}
use Rattle.bag_check.specs.Check.{repeats}
use Rattle.bag_check.proofs.AscendingPaths.{IsUpTo}
use Rattle.bag_check.proofs.entries.is_ascending.Given as goal

-- no path that was listed so far is greater than the last, and none was listed twice
abbrev pub invariant-loop-entry : goal.invariant-loop-entry
invariant-loop-entry l = record {
  text : shadow (Utf8 l.last);
  below : (q : List ℕ) → is_listed q (take l.entry-index l.entries) ≡ true → IsUpTo q l.last;
  once : repeats (take l.entry-index l.entries) ≡ false;
}
