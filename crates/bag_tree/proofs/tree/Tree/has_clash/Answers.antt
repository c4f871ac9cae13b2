use Rattle.std.proofs.Common.{◌∙◌, ap}
use Rattle.bag_tree.proofs.PlaceLaws.{has_clash}
use Rattle.bag_tree.proofs.tree.Tree.has_clash.Goals as goal

pub returns : goal.returns
returns c =
    has_clash c.args.self.now.files c.as_slice-files.result.now c.args.path.now c.has_file.result
    c.has_file_below.result c.lies_below_file.result
    (c.as_slice-files.ensures.value ∙ ap (λ tree. tree.files) c.self.view_is)
    c.has_file.ensures c.has_file_below.ensures c.lies_below_file.ensures
