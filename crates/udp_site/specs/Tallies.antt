-- When a site counts, and what its port says of that. Moments are microseconds.
use Rattle.std.specs.Prelude.{ℕ, ◌-◌, ◌*◌, nat_lt, Bool, not, Option, Some, None}
use Rattle.std.specs.Option.{option_map}
use Rattle.udp_site.specs.declared.status.Counts.{Counts}
use Rattle.udp_site.specs.declared.status.Standing.{Standing}
use Rattle.udp_site.specs.declared.tally.Tally.{Tally}

-- nothing is counted yet
abbrev pub none_counted : Tally
none_counted = record { counts = None; began = 0; ended = 0 }

-- Counting is due once a hundred times as long as it took last has passed since it ended.
abbrev pub counts_are_due : Tally → (now : ℕ) → Bool
counts_are_due tally now =
    not (nat_lt (now - tally.ended) ((tally.ended - tally.began) * 100))

-- it begins to count
abbrev pub begins_counting : Tally → (now : ℕ) → Tally
begins_counting tally now = record tally { began = now }

-- this is what it counted
abbrev pub ends_counting : Tally → Counts → (now : ℕ) → Tally
ends_counting tally counts now = record tally { counts = Some counts; ended = now }

-- what an answer says: nothing before it has counted
abbrev pub standing_of : Tally → (alone : ℕ) → Option Standing
standing_of tally alone = option_map (λ counts. record { counts = counts; alone = alone })
    tally.counts
