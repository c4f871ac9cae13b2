use Rattle.bag_tree.specs.Algorithms.{no_algorithms}
use Rattle.bag_tree.proofs.kept_text.KeptText.new.Goals as goal

pub invariant_of-result : goal.invariant_of-result
invariant_of-result c = (no_algorithms, c.none.ensures c.args.bytes.items)
