-- A site is started over a disk on which nothing was written.
use Rattle.std.proofs.Common.{◌≡◌, ℕ, [], refl}
use Rattle.fed_types.specs.Lists.{Has}
use Rattle.fed_types.specs.Sites.{Membership, members_of}
use Rattle.fed_types.specs.Values.{IsMembership}
use Rattle.cell_device.specs.Images.{at_rest}
use Rattle.records.proofs.Texts.{nothing_says}
use Rattle.site.specs.Contents.{Contents}
use Rattle.serving_law.specs.Disks.{Disk, Blank, device}
use Rattle.serving_law.specs.Federations.{Down, Federation, Happening, Starts}
use Rattle.serving_law.specs.Rules.{May}
use Rattle.serving_law.proofs.DiskCalls.{owner}
use Rattle.serving_law.proofs.DiskJournals.{holds, opens_new}

module _ (members : Membership) (is_membership : IsMembership members) (n : ℕ)
    (tables : Contents) where
  abbrev pub starts_new : Happening Disk
  starts_new =
      Starts n Blank (record { book = holds (owner members is_membership n) []; tables = tables })

  pub may_start : (f : Federation Disk) → Has n (members_of members) → f.members n ≡ Down []
      → May device members f starts_new
  may_start f member down = (
    member,
    (
      [],
      down,
      record {
        image = at_rest [];
        told = refl;
        says = nothing_says (owner members is_membership n);
      },
    ),
    opens_new (owner members is_membership n) is_membership.1,
  )
