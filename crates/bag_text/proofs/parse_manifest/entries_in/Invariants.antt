use Rattle.std.proofs.Common.{◌≡◌, ◌+◌, ◌≤◌, length}
use Rattle.bag_text.specs.Lines.{lines_of}
use Rattle.bag_text.specs.Readers.{entries_of, files_from}
use Rattle.bag_text.proofs.ManifestLaws.{after}
use Rattle.bag_text.proofs.parse_manifest.entries_in.Given as goal

abbrev pub invariant-loop-rest : goal.invariant-loop-rest
invariant-loop-rest l = record {
  read : after l.entries.items (files_from l.algorithm (l.number + 1) (lines_of l.rest))
      ≡ entries_of l.algorithm l.text;
  counted : l.number + length l.rest ≤ length l.text;
}

abbrev pub decreases-loop-rest : goal.decreases-loop-rest
decreases-loop-rest l = length l.rest
