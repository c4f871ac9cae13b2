use Rattle.bag_folders.proofs.NamedDigests.{AreBare}
use Rattle.bag_folders.proofs.first_look.bare_facts.Given as goal

-- those so far have no digest
abbrev pub invariant-loop-file : goal.invariant-loop-file
invariant-loop-file g l = AreBare l.files.items
