-- When a site counts again, computed: it counted once, from 4 ms on, for a millisecond.
use Rattle.std.proofs.Common.{◌≡◌, refl, Some, None, true, false}
use Rattle.udp_site.specs.declared.status.Counts.{Counts}
use Rattle.udp_site.specs.declared.tally.Tally.{Tally}
use Rattle.udp_site.specs.Tallies.{none_counted, counts_are_due, begins_counting, ends_counting}
use Rattle.udp_site.specs.Tallies.{standing_of}

abbrev counts : Counts
counts = record { records = 300; known = 2; pending = 1 }

abbrev tally : Tally
tally = ends_counting (begins_counting none_counted 4000) counts 5000

-- the first count is due at once
pub at_once : counts_are_due none_counted 0 ≡ true
at_once = refl

-- the next one 100 ms after the first has ended
pub not_yet : counts_are_due tally 104999 ≡ false
not_yet = refl

pub after_its_rest : counts_are_due tally 105000 ≡ true
after_its_rest = refl

-- while it counts, what it counted last is said
pub said_meanwhile : standing_of (begins_counting tally 105000) 70
    ≡ Some (record { counts = counts; alone = 70 })
said_meanwhile = refl

-- and nothing before it has counted
pub nothing_said : standing_of (begins_counting none_counted 0) 70 ≡ None
nothing_said = refl
