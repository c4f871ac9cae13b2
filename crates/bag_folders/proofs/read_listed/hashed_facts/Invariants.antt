use Rattle.std.proofs.Common.{map, string_bytes}
use Rattle.bag_folders.proofs.NamedDigests.{AreFactsBy}
use Rattle.bag_folders.proofs.read_listed.hashed_facts.Given as goal

-- those that were yielded are hashed
abbrev pub invariant-loop-file : goal.invariant-loop-file
invariant-loop-file g l =
    AreFactsBy l.wanted (map (λ file. string_bytes file.path) l.yielded) l.files.items
