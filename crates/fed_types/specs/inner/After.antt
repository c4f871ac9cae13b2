-- The sites that an iteration over the members has left.
use Rattle.std.specs.Prelude.{ℕ, ◌+◌, ◌-◌, List}
use Rattle.std.specs.List.{range_with_len}

-- the sites after one, to the last
abbrev pub sites_after : (before last : ℕ) → List ℕ
sites_after before last = range_with_len (before + 1) (last - before)
