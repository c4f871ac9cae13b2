-- The laws of a cell that keeps nothing.
use Rattle.std.specs.Prelude.{◌≡◌, Some, None, Option}
use Rattle.cell_device.specs.Images.{Image, Leaves}

-- what it holds isn't known
pub seen_now_of : (i : Image) → None ≡ Some i → Leaves i i.seen
seen_now_of i known = absurd (none_is_other i known)
  where
    none_is_other : (i : Image) → ◌≡◌ {A = Option Image} None (Some i) → ⊥
    none_is_other i e = cc e
