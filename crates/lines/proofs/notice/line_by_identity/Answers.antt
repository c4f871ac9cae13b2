use Rattle.std.proofs.Common.{◌≡◌, [], Option, Some, None, refl}
use Rattle.fed_types.specs.declared.bag_id.BagId.{BagId}
use Rattle.lines.specs.declared.notice.Notice.{Notice}
use Rattle.lines.specs.Named.{first_tree, tree_of, tree_in}
use Rattle.lines.specs.Notices.{bag_in}
use Rattle.lines.proofs.notice.line_by_identity.Goals as goal

-- where no trees were seen, no bag is seen first in one
none_seen : (notice : Notice) → 0 ≡ tree_in [] notice
unfolding first_tree
none_seen notice = go (bag_in notice)
  where
    go : (bag : Option BagId) → 0 ≡ tree_of [] bag
    go None = refl
    go (Some bag) = refl

pub returns : goal.returns
returns c = c.line_of.ensures [] (none_seen c.args.notice)
