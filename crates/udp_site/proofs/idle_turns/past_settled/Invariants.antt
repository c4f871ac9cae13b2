use Rattle.std.proofs.Common.{◌≡◌, ◌≤◌, ◌<◌, ℕ, true}
use Rattle.udp_site.specs.inner.SlotRecords.{is_settled}
use Rattle.udp_site.proofs.idle_turns.past_settled.Given as goal

-- the places so far are settled
abbrev pub invariant-loop-place : goal.invariant-loop-place
invariant-loop-place g l =
    (place : ℕ) → l.fn.from ≤ place → place < l.place → is_settled l.site.book.records place ≡ true
