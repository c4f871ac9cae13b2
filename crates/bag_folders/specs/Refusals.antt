-- Which refusals are remembered, and for how long. Moments are microseconds.
use Rattle.std.specs.Prelude.{ℕ, ◌-◌, ◌&&◌, nat_lt, if◌then◌else◌, Bool, List, [], ◌∷◌, ◌++◌}
use Rattle.std.specs.Prelude.{drop, length}
use Rattle.std.specs.Str.{bytes_eq}
use Rattle.bag_folders.specs.declared.list_sum.ListSum.{ListSum}
use Rattle.bag_folders.specs.declared.refusals.Refusal.{Refusal}

-- the refusal is of this list of files, and not yet a minute old
abbrev pub is_fresh_of : ListSum → (now : ℕ) → Refusal → Bool
is_fresh_of files now refusal =
    bytes_eq refusal.files.sum files.sum && nat_lt (now - refusal.moment) 60000000

-- One more is remembered. There are at most 1,024: beyond that the earliest is forgotten.
abbrev pub with_refusal : List Refusal → Refusal → List Refusal
with_refusal refusals refusal =
    if nat_lt (length refusals) 1024
    then refusals ++ refusal ∷ []
    else drop 1 refusals ++ refusal ∷ []
