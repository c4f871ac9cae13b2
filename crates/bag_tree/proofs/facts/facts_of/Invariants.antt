use Rattle.std.proofs.Common.{◌≡◌, map, take}
use Rattle.bag_tree.specs.Facts.{fact_of_file}
use Rattle.bag_tree.proofs.facts.facts_of.Given as goal

-- the facts of the files so far
abbrev pub invariant-loop-file : goal.invariant-loop-file
invariant-loop-file l = l.files.items ≡ map fact_of_file (take l.file-index l.file-items)
