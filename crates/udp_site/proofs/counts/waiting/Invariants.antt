use Rattle.std.proofs.Common.{◌≡◌, ◌≤◌}
use Rattle.udp_site.specs.Status.{waiting_before}
use Rattle.udp_site.proofs.counts.waiting.Given as goal

-- those so far that wait are counted, and they are no more than there are places
abbrev pub invariant-loop-place : goal.invariant-loop-place
invariant-loop-place g l =
    (l.count ≡ waiting_before l.site.book.records l.place) × (l.count ≤ l.place)
