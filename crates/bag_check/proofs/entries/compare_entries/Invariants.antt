use Rattle.std.proofs.Common.{◌≡◌, take}
use Rattle.std.specs.List.{list_any}
use Rattle.bag_check.specs.Check.{is_missing, is_wrong}
use Rattle.bag_check.proofs.entries.compare_entries.Given as goal

abbrev pub invariant-loop-entry : goal.invariant-loop-entry
invariant-loop-entry l = record {
  missing : l.missing ≡ list_any (is_missing l.files) (take l.entry-index l.entries);
  wrong : l.wrong ≡ list_any (is_wrong l.algorithm l.files) (take l.entry-index l.entries);
}
