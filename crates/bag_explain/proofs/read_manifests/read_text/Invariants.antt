use Rattle.std.proofs.Common.{◌≡◌, map, take}
use Rattle.bag_explain.specs.Lines.{numbered_from, malformed_from}
use Rattle.bag_explain.proofs.read_manifests.read_text.Given as goal

-- the lines so far are read
abbrev pub invariant-loop-line : goal.invariant-loop-line
invariant-loop-line l = record {
  counted : l.number ≡ l.line-index;
  malformed : l.malformed.items
      ≡ malformed_from l.algorithm 1 (map (λ line. line.now) (take l.line-index l.line-items));
  entries : l.entries.items
      ≡ numbered_from l.algorithm 1 (map (λ line. line.now) (take l.line-index l.line-items));
}
