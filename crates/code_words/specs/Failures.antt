-- How writes that fail are counted.
use Rattle.std.specs.Prelude.{◌≡◌, ◌+◌, ◌-◌, ◌^◌, min, ℕ, Result, Ok, Err}

-- the most that are counted: a count has 64 bits
abbrev pub most_failures : ℕ
most_failures = 2 ^ 64 - 1

-- the count is greater by one exactly if this write failed, as long as it can be
abbrev pub CountsFailures : {T E : Type 0} → ℕ → ℕ → Result T E → Type 0
CountsFailures before now (Ok x) = now ≡ before
CountsFailures before now (Err e) = now ≡ min (before + 1) most_failures
