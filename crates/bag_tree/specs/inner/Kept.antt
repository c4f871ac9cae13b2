-- What a `KeptText` is.
use Rattle.std.specs.Prelude.{ℕ, List}
use Rattle.bag_tree.specs.declared.algorithms.Algorithms.{Algorithms}

-- the bytes of a text that describes a bag, and the algorithms by which its digests are wanted
pub record Kept : Type 0 where
  pub wanted : Algorithms
  pub bytes : List ℕ
