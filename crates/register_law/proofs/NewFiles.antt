-- A history begins over a new cell.
use Rattle.std.proofs.Common.{◌≡◌, refl, true, [], Some}
use Rattle.std.specs.Prelude.{Ok}
use Rattle.fed_types.specs.Lists.{is_in}
use Rattle.fed_types.specs.Sites.{members_of}
use Rattle.fed_types.specs.Laws.Lists.{is_in_decides}
use Rattle.cell_device.specs.Devices.{Device}
use Rattle.cell_device.specs.Images.{at_rest}
use Rattle.records.specs.declared.owner.Owner.{Owner}
use Rattle.records.proofs.Texts.{nothing_says}
use Rattle.book.specs.Opened.{Opens}
use Rattle.site.specs.Sites.{OpenSite}
use Rattle.serving_law.specs.Federations.{new_federation}
use Rattle.serving_law.specs.Rules.{MayAll}
use Rattle.register_law.specs.FileCells.{BeginsAHistory}

pub begins : {C : Type 0} (device : C → Device) (owner : Owner) (cell : C) (site : OpenSite C)
    → is_in (members_of owner.members) owner.site ≡ true
    → (device cell).image ≡ Some (at_rest [])
    → Opens device owner cell (Ok site.book) → BeginsAHistory device owner site
unfolding MayAll new_federation
begins device owner cell site member image opened = (
  cell,
  (
    (
      (is_in_decides (members_of owner.members) owner.site).0 member,
      ([], refl, record { image = at_rest []; told = image; says = nothing_says owner }),
      opened,
    ),
    tt,
  ),
)
