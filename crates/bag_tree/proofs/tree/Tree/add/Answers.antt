use Rattle.std.proofs.Common.{◌∙◌, sym}
use Rattle.std.proofs.lemmas.Bool.{or_parts}
use Rattle.bag_tree.proofs.tree.Tree.add.Goals as goal

pub push-requires-clause-placed : goal.push-requires-clause-placed
push-requires-clause-placed c =
    (or_parts _ _ (sym c.has_no_place.ensures ∙ c.if-has_no_place.false)).1
