use Rattle.std.proofs.Common.{◌≡◌}
use Rattle.bag_tree.proofs.facts.Facts.compute_digests.Given as goal

-- no file's facts have changed
abbrev pub invariant-loop-file : goal.invariant-loop-file
invariant-loop-file l = l.file-items ≡ l.initial.file-items
