-- The identities of bags.
use Rattle.std.specs.Prelude.{Bool, bytes_eq}
use Rattle.fed_types.specs.declared.bag_id.BagId.{BagId}

-- whether two identities are one
abbrev pub same_bag : BagId → BagId → Bool
same_bag a b = bytes_eq a.0 b.0
