use Rattle.std.proofs.Common.{◌≡◌, take}
use Rattle.std.specs.List.{list_any}
use Rattle.bag_check.specs.inner.Order.{has_missing, has_wrong}
use Rattle.bag_check.proofs.entries.compare.Given as goal

abbrev pub invariant-loop-listing : goal.invariant-loop-listing
invariant-loop-listing l = record {
  missing : l.missing ≡ list_any (has_missing l.files) (take l.listing-index l.listings);
  wrong : l.wrong ≡ list_any (has_wrong l.files) (take l.listing-index l.listings);
}
