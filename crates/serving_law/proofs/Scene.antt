-- A member whose process serves, in a network that represents its federation.
use Rattle.std.specs.Prelude.{ℕ, List}
use Rattle.fed_types.specs.Lists.{Has}
use Rattle.fed_types.specs.Sites.{Membership, members_of}
use Rattle.fed_types.specs.Values.{IsMembership}
use Rattle.cell_device.specs.Devices.{Device}
use Rattle.cell_device.specs.Images.{MayLeave}
use Rattle.book.specs.OpenBooks.{RecoversTo}
use Rattle.site.specs.Contents.{Contents}
use Rattle.world_law.specs.Networks.{Network}
use Rattle.world_law.specs.WellFormed.{IsWellFormed}
use Rattle.world_law.proofs.Kept.{Kept}
use Rattle.serving_law.specs.Rules.{owner_of}
use Rattle.serving_law.proofs.Networks.{quorums}

-- since this moment of a device there is no other
abbrev pub OnlyNow : {C : Type 0} → (C → Device) → Type 0
OnlyNow {C} device =
    (cell : C) (bytes : List ℕ) → (device cell).left_since (device cell).moment bytes
    → MayLeave (device cell).image bytes

pub record Scene {C : Type 0} (device : C → Device) (members : Membership) : Type 0 where
  pub is_membership : IsMembership members
  pub only_now : OnlyNow device
  pub w : Network
  pub inv : Kept (quorums device members) w
  pub formed : IsWellFormed w
  pub n : ℕ
  pub member : Has n (members_of members)
  pub cell : C
  pub tables : Contents
  pub recovers : RecoversTo (owner_of device members n) (w.sites n).records (device cell).image
