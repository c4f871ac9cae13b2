-- What a call has begun and not finished, when memory may run out before its end. You can skip this
-- at a first reading: it says nothing about what is heard, promised and voted.
use Rattle.std.specs.Prelude.{ℕ, ◌==◌, Option, Some, None, if◌then◌else◌}
use Rattle.fed_types.specs.declared.bag_id.BagId.{BagId}
use Rattle.fed_types.specs.Ballots.{BallotNumber}
use Rattle.fed_types.specs.Slots.{SlotName}
use Rattle.records.specs.declared.entry.Entry.{Entry}
use Rattle.records.specs.declared.entry.Entry.TheVariants as entry
use Rattle.dgram.specs.declared.message.Message.{Message}
use Rattle.proposer.specs.VolatileStates.{VolatileState, hears, at_slot, with_current}

-- What the volatile state doesn't show, for each slot: if memory runs out meanwhile, nothing has
-- happened. A ballot that was begun, while its Round record isn't noted; and the promise that made
-- a proposal ready, while the proposal isn't issued.
pub record UnderWay : Type 0 where
  pub begun : SlotName → Option BallotNumber
  pub waiting : SlotName → Option Message

-- nothing is
abbrev pub nothing : UnderWay
nothing = record { begun = λ slot. None; waiting = λ slot. None }

-- a ballot is begun
abbrev pub begins : UnderWay → SlotName → BallotNumber → UnderWay
begins under slot ballot =
    record { begun = at_slot slot (Some ballot) under.begun; waiting = under.waiting }

-- this promise waits, or none does
abbrev pub waits : UnderWay → SlotName → Option Message → UnderWay
waits under slot m = record { begun = under.begun; waiting = at_slot slot m under.waiting }

-- a promise that makes a proposal of this bag ready isn't heard yet; one that makes no proposal
-- ready is
abbrev pub heard_after : Option BagId → VolatileState → Message → VolatileState
heard_after None volatile m = hears volatile m
heard_after (Some bag) volatile m = volatile

-- but waits
abbrev pub waiting_after : Option BagId → UnderWay → Message → UnderWay
waiting_after None under m = under
waiting_after (Some bag) under m = waits under m.slot (Some m)

-- it is heard once the proposal is issued
abbrev pub heard_if : VolatileState → Option Message → VolatileState
heard_if volatile None = volatile
heard_if volatile (Some m) = hears volatile m

-- the ballot that was begun, where it is of this round
abbrev pub of_round : Option BallotNumber → ℕ → Option BallotNumber
of_round None round = None
of_round (Some ballot) round = if ballot.round == round then Some ballot else None

-- a Round record of the ballot that was begun makes it current, and no other record does
abbrev pub current_by : Option BallotNumber → Entry → Option BallotNumber
current_by begun (entry.Round round) = of_round begun round
current_by begun _ = None

-- the volatile state after that
abbrev pub current_if : VolatileState → SlotName → Option BallotNumber → VolatileState
current_if volatile slot None = volatile
current_if volatile slot (Some ballot) = with_current volatile slot ballot

-- and what is under way: for this slot nothing
abbrev pub under_way_if : UnderWay → SlotName → Option BallotNumber → UnderWay
under_way_if under slot None = under
under_way_if under slot (Some ballot) = record {
  begun = at_slot slot None under.begun;
  waiting = at_slot slot None under.waiting;
}
