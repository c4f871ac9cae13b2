-- The law of the test of two identities.
use Rattle.std.specs.Prelude.{◌≡◌, Decides}
use Rattle.std.proofs.Common.{ap}
use Rattle.std.proofs.lemmas.Slice.Eq.{bytes_eq-Decides}
use Rattle.fed_types.specs.declared.bag_id.BagId.{BagId}
use Rattle.fed_types.specs.Bags.{same_bag}

-- the test passes exactly where the two identities are equal
pub same_bag_decides : (a b : BagId) → Decides (same_bag a b) (a ≡ b)
same_bag_decides a b =
    let bytes = bytes_eq-Decides a.0 b.0 in (
      λ h. let same = bytes.0 h in λ i. record { 0 = same i },
      λ e. bytes.1 (ap (λ (v : BagId). v.0) e),
    )
