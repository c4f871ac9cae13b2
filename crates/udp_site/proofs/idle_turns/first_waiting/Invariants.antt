use Rattle.std.proofs.Common.{◌≡◌, ◌≤◌, ◌<◌, ℕ, false}
use Rattle.udp_site.specs.Rounds.{waits}
use Rattle.udp_site.proofs.idle_turns.first_waiting.Given as goal

-- none so far waits
abbrev pub invariant-loop-place : goal.invariant-loop-place
invariant-loop-place g l =
    (place : ℕ) → l.fn.from ≤ place → place < l.place → waits l.site.book.records place ≡ false
