use Rattle.std.proofs.Common.{Some, None, ap, ◌∙◌}
use Rattle.std.specs.Option.{option_copied}
use Rattle.world_law.specs.Trees.{NumberedTree}
use Rattle.sim_stations.proofs.Places.{at, in_range, found_tree}
use Rattle.sim_stations.proofs.trees.Trees.get.Goals as goal

pub returns-in_err-place : goal.returns-in_err-place
returns-in_err-place c =
    ap option_copied c.from_residual.ensures
    ∙ at c.args.number c.args.self.now None c.in_err-place.ensures

pub index-requires : goal.index-requires
index-requires c =
    rw c.self.inside.trees.ok.0 (in_range c.args.number c.self.view_is c.in_ok-place.ensures)

pub returns : goal.returns
returns c =
    ap (λ (tree : NumberedTree). Some tree.files) c.behind-self.view_is
    ∙ found_tree c.args.number c.self.view_is c.in_ok-place.ensures c.index.ensures
