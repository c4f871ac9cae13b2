use Rattle.std.proofs.Common.{map, take, Ok}
use Rattle.known_bags.specs.Sources.{AreOfFiles, Keeps}
use Rattle.known_bags.proofs.sources.push_sources.Given as goal

-- the files of the paths so far gave all that was appended
abbrev pub invariant-loop-path : goal.invariant-loop-path
invariant-loop-path g l = record {
  known : AreOfFiles (g.S.SourceFiles.bytes_at l.files)
      (map (λ path. path.now) (take l.path-index l.paths)) l.initial.bags.items l.bags.items
      (Ok tt);
  kept : Keeps l.initial.bags.items l.bags.items;
}
