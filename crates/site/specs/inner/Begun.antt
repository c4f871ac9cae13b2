-- What beginning a ballot does to the tables, the record and answer that it gives, and what it
-- comes to.
use Rattle.std.specs.Prelude.{◌≡◌, List, map, Some, None, IsSome, Result, Ok, Err}
use Rattle.fed_types.specs.Ballots.{BallotNumber}
use Rattle.fed_types.specs.Quorums.{quorums_of}
use Rattle.fed_types.specs.Sites.{members_of}
use Rattle.fed_types.specs.Slots.{SlotName}
use Rattle.records.specs.declared.entry.Entry.TheVariants as entry
use Rattle.records.specs.declared.owner.Owner.{Owner}
use Rattle.records.specs.declared.record.Record.{Record}
use Rattle.dgram.specs.declared.body.Body.TheVariants.{Prepare}
use Rattle.proposer.specs.Proposals.{next_ballot}
use Rattle.proposer.specs.VolatileStates.{VolatileState}
use Rattle.proposer.specs.UnderWay.{UnderWay, begins}
use Rattle.site.specs.Contents.{Contents, IsOf, Represents}
use Rattle.site.specs.declared.answer.Answer.{Answer}
use Rattle.site.specs.declared.fault.SiteFault.{SiteFault}
use Rattle.site.specs.declared.fault.SiteFault.TheVariants as faults
use Rattle.site.specs.Datagrams.{handed_out, datagram}
use Rattle.site.specs.Effects.{Effect, to_each}
use Rattle.site.specs.Calls.{begins_next}
use Rattle.site.specs.Sites.{OpenSite}

-- the record of the ballot's round, and the answer that asks all members to promise it
pub record IsOfBallot
    (owner : Owner) (slot : SlotName) (ballot : BallotNumber) (new : Record) (answer : Answer)
    : Type 0 where
  pub record_is : new ≡ record { slot = slot; body = entry.Round ballot.round }
  pub line : answer.line ≡ None
  pub sends : map handed_out answer.sends.items
      ≡ map (datagram owner.members.federation)
      (to_each slot (Prepare ballot) (members_of owner.members))

-- the next ballot is begun; or none is left; or one is, and memory ran out, before it was begun or
-- after
abbrev pub Begins :
    Owner → Contents → SlotName → List Record → VolatileState → UnderWay
    → Result (Record × Answer) SiteFault → Type 0
Begins owner tables slot records volatile under (Ok x) =
    (ballot : BallotNumber)
    × (next_ballot owner.site slot records volatile.heard ≡ Some ballot)
    × IsOfBallot owner slot ballot x.0 x.1
    × Represents tables records volatile (begins under slot ballot)
Begins owner tables slot records volatile under (Err faults.RoundsSpent) =
    (next_ballot owner.site slot records volatile.heard ≡ None)
    × Represents tables records volatile under
Begins owner tables slot records volatile under (Err faults.Memory) =
    IsSome (next_ballot owner.site slot records volatile.heard)
    × (after : UnderWay) × Represents tables records volatile after
Begins owner tables slot records volatile under (Err fault) = ⊥

-- this is true of each volatile state that the tables represent
pub record BeginsBallot
    (owner : Owner) (old new : Contents) (slot : SlotName)
    (result : Result (Record × Answer) SiteFault)
    : Type 0 where
  pub order : (records : List Record) → IsOf old owner records → IsOf new owner records
  pub begun : (records : List Record) (volatile : VolatileState) (under : UnderWay)
      → IsOf old owner records → Represents old records volatile under
      → Begins owner new slot records volatile under result

-- what it comes to that a site begins the slot's next ballot
abbrev pub next_effect : {C : Type 0} → OpenSite C → VolatileState → SlotName → Effect
next_effect s volatile slot =
    begins_next (quorums_of s.book.owner.members) slot
    (next_ballot s.book.owner.site slot s.book.records volatile.heard) volatile
