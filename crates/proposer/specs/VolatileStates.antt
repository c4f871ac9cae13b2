-- What a site has learned since it was opened, and loses when it goes down: all that it heard,
-- which its proposer and its learner count, and its current ballots.
use Rattle.std.specs.Prelude.{ℕ, length, List, [], ◌∷◌, ◌++◌, Option, Some, None}
use Rattle.std.specs.Prelude.{if◌then◌else◌}
use Rattle.fed_types.specs.declared.vote.Vote.{Vote}
use Rattle.fed_types.specs.Ballots.{BallotNumber}
use Rattle.fed_types.specs.Slots.{SlotName, same_slot}
use Rattle.dgram.specs.declared.body.Body.TheVariants.{Promise, Refused}
use Rattle.dgram.specs.declared.message.Message.{Message}
use Rattle.proposer.specs.Proposals.{Current}

-- the messages that were heard, and of each slot the current ballot
pub record VolatileState : Type 0 where
  pub heard : List Message
  pub current : SlotName → Option Current

-- nothing was heard, and no ballot is current
abbrev pub new_volatile : VolatileState
new_volatile = record { heard = []; current = λ slot. None }

-- a promise, and a refusal, as messages
abbrev pub promise_message : SlotName → ℕ → BallotNumber → Option Vote → Message
promise_message slot from ballot prior = record { slot = slot; body = Promise from ballot prior }

abbrev pub refusal_message : SlotName → ℕ → (asked standing : BallotNumber) → Message
refusal_message slot from asked standing =
    record { slot = slot; body = Refused from asked standing }

-- one more message was heard
abbrev pub hears : VolatileState → Message → VolatileState
hears volatile m = record { heard = volatile.heard ++ m ∷ []; current = volatile.current }

-- at this slot one thing is given, at others what was there
abbrev pub at_slot :
    {X : Type 0} → SlotName → Option X → (SlotName → Option X) → SlotName → Option X
at_slot slot x others s = if same_slot slot s then x else others s

-- this ballot is the slot's current one from now on: what was heard before doesn't count for it
abbrev pub with_current : VolatileState → SlotName → BallotNumber → VolatileState
with_current volatile slot ballot = record {
  heard = volatile.heard;
  current = at_slot slot (Some (record { ballot = ballot; heard_before = length volatile.heard }))
      volatile.current;
}
