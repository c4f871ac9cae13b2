-- How beginning a ballot comes out.
use Rattle.std.proofs.Common.{◌≡◌, inl, inr, Option, Some, None, Result, Ok, Err, refl, List}
use Rattle.std.specs.Prelude.{IsSome}
use Rattle.fed_types.specs.Ballots.{BallotNumber}
use Rattle.fed_types.specs.Faults.{IsOrFault}
use Rattle.fed_types.specs.Slots.{SlotName}
use Rattle.records.specs.declared.owner.Owner.{Owner}
use Rattle.records.specs.declared.record.Record.{Record}
use Rattle.proposer.specs.declared.fault.ProposeFault.{ProposeFault}
use Rattle.proposer.specs.declared.fault.ProposeFault.TheVariants as proposals
use Rattle.proposer.specs.Faults.{next_or_spent}
use Rattle.proposer.specs.Proposals.{next_ballot}
use Rattle.proposer.specs.VolatileStates.{VolatileState}
use Rattle.proposer.specs.UnderWay.{UnderWay, begins}
use Rattle.site.specs.Contents.{Contents, IsOf, Represents, RepresentsSame}
use Rattle.site.specs.declared.answer.Answer.{Answer}
use Rattle.site.specs.declared.fault.SiteFault.{SiteFault}
use Rattle.site.specs.declared.fault.SiteFault.TheVariants as faults
use Rattle.site.specs.Faults.{propose_fault}
use Rattle.site.specs.inner.Begun.{IsOfBallot, Begins, BeginsBallot}

-- the ballot that was begun is the next one
pub next_of : (n : Option BallotNumber) (ballot : BallotNumber)
    → IsOrFault proposals.Memory (Ok ballot) (next_or_spent n) → n ≡ Some ballot
next_of None ballot (inl e) = absurd (cc e)
next_of None ballot (inr e) = absurd (cc e)
next_of (Some b) ballot (inl e) = cc
next_of (Some b) ballot (inr e) = absurd (cc e)

-- and where the rounds are spent there is none
pub none_left : (n : Option BallotNumber)
    → IsOrFault proposals.Memory (Err proposals.RoundsSpent) (next_or_spent n) → n ≡ None
none_left None is = refl
none_left (Some b) (inl e) = absurd (cc e)
none_left (Some b) (inr e) = absurd (cc e)

-- memory runs out only where a ballot is left
pub one_left : (n : Option BallotNumber)
    → (n ≡ None → ◌≡◌ {A = Result BallotNumber ProposeFault} (Err proposals.Memory)
    (Err proposals.RoundsSpent)) → IsSome n
one_left None spent = absurd (cc (spent refl))
one_left (Some b) spent = refl

module _ (owner : Owner) (old new : Contents) (slot : SlotName)
    (result : Result (Record × Answer) SiteFault) where
  -- no ballot was begun
  pub not_begun : (fault : ProposeFault) → result ≡ Err (propose_fault fault)
      → RepresentsSame old new
      → ((records : List Record) (volatile : VolatileState)
      (under : UnderWay) → IsOf old owner records
      → Represents old records volatile under
      → IsOrFault proposals.Memory (Err fault)
      (next_or_spent (next_ballot owner.site slot records volatile.heard)))
      → ((records : List Record) (volatile : VolatileState)
      (under : UnderWay) → IsOf old owner records
      → Represents old records volatile under
      → next_ballot owner.site slot records volatile.heard ≡ None
      → ◌≡◌ {A = Result BallotNumber ProposeFault} (Err fault) (Err proposals.RoundsSpent))
      → BeginsBallot owner old new slot result
  not_begun fault is same answer spent =
      rw is (record {
        order = same.of owner;
        begun = λ records volatile under of stands. go fault records volatile under
            (answer records volatile under of stands) (spent records volatile under of stands)
            (same.stands records volatile under stands);
      })
    where
      go : (f : ProposeFault) (records : List Record) (volatile : VolatileState) (under : UnderWay)
          → IsOrFault proposals.Memory (Err f)
          (next_or_spent (next_ballot owner.site slot records volatile.heard))
          → (next_ballot owner.site slot records volatile.heard ≡ None
          → ◌≡◌ {A = Result BallotNumber ProposeFault} (Err f) (Err proposals.RoundsSpent))
          → Represents new records volatile under
          → Begins owner new slot records volatile under (Err (propose_fault f))
      go proposals.RoundsSpent records volatile under is spent stands = (none_left _ is, stands)
      go proposals.Memory records volatile under is spent stands =
          (one_left _ spent, under, stands)

  module _ (ballot : BallotNumber)
      (order : (records : List Record) → IsOf old owner records → IsOf new owner records)
      (begun : (records : List Record) (volatile : VolatileState) (under : UnderWay)
      → Represents old records volatile under
      → Represents new records volatile (begins under slot ballot)) where
    -- memory ran out for the answer
    pub begun_in_vain : result ≡ Err faults.Memory
        → ((records : List Record) (volatile : VolatileState) (under : UnderWay)
        → IsOf old owner records → Represents old records volatile under
        → IsOrFault proposals.Memory (Ok ballot)
        (next_or_spent (next_ballot owner.site slot records volatile.heard)))
        → BeginsBallot owner old new slot result
    begun_in_vain is next =
        rw is (record {
          order = order;
          begun = λ records volatile under of stands. (
            rw (next_of _ ballot (next records volatile under of stands)) refl,
            begins under slot ballot,
            begun records volatile under stands,
          );
        })

    -- a ballot was begun
    pub ballot_begun : (new_record : Record) (answer : Answer)
        → result ≡ Ok (new_record, answer) → IsOfBallot owner slot ballot new_record answer
        → ((records : List Record) (volatile : VolatileState) (under : UnderWay)
        → IsOf old owner records → Represents old records volatile under
        → IsOrFault proposals.Memory (Ok ballot)
        (next_or_spent (next_ballot owner.site slot records volatile.heard)))
        → BeginsBallot owner old new slot result
    ballot_begun new_record answer is of_ballot next =
        rw is (record {
          order = order;
          begun = λ records volatile under of stands. (
            ballot,
            next_of _ ballot (next records volatile under of stands),
            of_ballot,
            begun records volatile under stands,
          );
        })
