use Rattle.std.proofs.Common.{◌≡◌, ◌+◌}
use Rattle.udp_site.specs.Status.{waiting_before}
use Rattle.udp_site.proofs.idle_turns.waiting_from.Given as goal

-- those before the next place are counted
abbrev pub invariant-loop-count : goal.invariant-loop-count
invariant-loop-count g l =
    waiting_before l.site.book.records l.fn.from + l.count
    ≡ waiting_before l.site.book.records l.next
