-- What a turn comes to for the pace of a socket.
use Rattle.std.specs.Prelude.{◌≡◌, ◌≤◌, ℕ, Bool, true, false, List, length, take}
use Rattle.dgram.specs.Decoded.{message_of}
use Rattle.udp_site.specs.declared.pace.Pace.{Pace}
use Rattle.udp_site.specs.declared.paced_socket.Arrival.{Arrival}
use Rattle.udp_site.specs.declared.paced_socket.End.{End}
use Rattle.udp_site.specs.declared.paced_socket.End.TheVariants as ends
use Rattle.udp_site.specs.declared.recoveries.Recoveries.{Recoveries}
use Rattle.udp_site.specs.declared.tally.Tally.{Tally}
use Rattle.udp_site.specs.declared.turn.Turn.{Turn}
use Rattle.udp_site.specs.declared.turn.Turn.TheVariants as turns
use Rattle.udp_site.specs.Pace.{idles, takes, left, pause}
use Rattle.udp_site.specs.Recoveries.{is_early, hands_on}
use Rattle.udp_site.specs.Signs.{signal_at}
use Rattle.udp_site.specs.Status.{asks_status}
use Rattle.udp_site.specs.Tallies.{counts_are_due, begins_counting}

-- what was taken fits into the buffer, and is neither a Recover that comes too early nor a question
-- that the port answers
abbrev pub IsTaken : Pace → Recoveries → (buffer : List ℕ) → Arrival → Type 0
IsTaken pace recoveries buffer arrival =
    (arrival.count ≤ length buffer)
    × (is_early recoveries (pause pace) arrival.now (take arrival.count buffer) ≡ false)
    × (asks_status pace.contacts (take arrival.count buffer) ≡ false)

-- a wait ends with such a datagram, or at a moment when nothing was left of it
abbrev pub EndsWait : Pace → Recoveries → (buffer : List ℕ) → End → Type 0
EndsWait pace recoveries buffer (ends.Taken arrival) = IsTaken pace recoveries buffer arrival
EndsWait pace recoveries buffer (ends.Idle began now) = left pace began now ≡ 0

-- a turn was idle at a moment when it had nothing left to wait
abbrev pub IsIdled : (old new : Pace) → Type 0
IsIdled old new = (began : ℕ) × (now : ℕ) × (left old began now ≡ 0) × (new ≡ idles old now)

-- if counting was due at this moment, it has begun
abbrev pub WantsCounts : (old new : Tally) → (now : ℕ) → (wants : Bool) → Type 0
WantsCounts old new now false = new ≡ old
WantsCounts old new now true = (counts_are_due old now ≡ true) × (new ≡ begins_counting old now)

-- A turn was idle, or took a datagram at a moment, from which the pace learns. A Recover is taken
-- only where it doesn't come too early, and later ones are early by it. No question how the site
-- stands is taken.
abbrev pub TurnIsPaced : (federation own : ℕ) → (old new : Pace) → (before after : Recoveries)
    → Turn
    → Type 0
TurnIsPaced federation own old new before after turns.Idle = IsIdled old new × (after ≡ before)
TurnIsPaced federation own old new before after (turns.Got from bytes) =
    (now : ℕ) × (new ≡ takes old now (signal_at own from (message_of federation bytes.items)))
    × (is_early before (pause old) now bytes.items ≡ false)
    × (asks_status old.contacts bytes.items ≡ false)
    × (after ≡ hands_on before now bytes.items)
