use Rattle.std.proofs.Common.{◌≡◌, ◌++◌, take}
use Rattle.known_bags.specs.Sources.{known_of}
use Rattle.known_bags.proofs.sources.push_records.Given as goal

-- the bags of the records so far were appended
abbrev pub invariant-loop-kept : goal.invariant-loop-kept
invariant-loop-kept l =
    l.bags.items ≡ l.initial.bags.items ++ known_of (take l.kept-index l.records)
