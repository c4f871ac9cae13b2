-- The bags that folders hold.
use Rattle.std.specs.Prelude.{ℕ, List, filter_map, Option, None, option_map}
use Rattle.std.specs.Prelude.{Result, Ok, Err}
use Rattle.std.specs.Result.{result_ok}
use Rattle.fed_types.specs.declared.bag_id.BagId.{BagId}
use Rattle.bag_tree.specs.declared.fault.TreeFault.{TreeFault}
use Rattle.bag_tree.specs.Facts.{TreeFacts}
use Rattle.bag_check.specs.Check.{check_of}

-- what a read of the folder of each path gives
abbrev pub Given : Type 0
Given = List ℕ → Result TreeFacts TreeFault

-- the path of a folder, and the identity of the valid bag that it is
pub record Held : Type 0 where
  pub path : List ℕ
  pub bag : BagId

abbrev pub held_by : List ℕ → BagId → Held
held_by path bag = record { path = path; bag = bag }

-- the identity of the folder that was read so, if it is a valid bag
abbrev pub bag_in : Result TreeFacts TreeFault → Option BagId
bag_in (Ok facts) = result_ok (check_of facts)
bag_in (Err fault) = None

-- what the folder of this path holds
abbrev pub held_at : Given → List ℕ → Option Held
held_at gives path = option_map (held_by path) (bag_in (gives path))

-- the bags that the folders of these paths hold, in order
unfoldable pub held_of : Given → List (List ℕ) → List Held
held_of gives paths = filter_map (held_at gives) paths
