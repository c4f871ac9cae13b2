use Rattle.std.proofs.Common.{◌≡◌, false, take}
use Rattle.std.specs.List.{list_any}
use Rattle.bag_check.specs.inner.Order.{has_unlisted}
use Rattle.bag_check.proofs.entries.some_unlisted.Given as goal

abbrev pub invariant-loop-listing : goal.invariant-loop-listing
invariant-loop-listing l = list_any (has_unlisted l.files) (take l.listing-index l.listings) ≡ false
