-- A ballot is started, or why it isn't.
use Rattle.std.proofs.Common.{◌≡◌, inl, map, Option, Some, None, Result, Ok, Err, refl}
use Rattle.std.specs.Prelude.{IsSome}
use Rattle.std.proofs.lemmas.Bool.Decides.{Decides-eqb}
use Rattle.fed_types.specs.Ballots.{BallotNumber}
use Rattle.fed_types.specs.Quorums.{quorums_of}
use Rattle.fed_types.specs.Slots.{SlotName}
use Rattle.cell_device.specs.Devices.{Device}
use Rattle.records.specs.declared.entry.Entry.TheVariants as entry
use Rattle.records.specs.declared.owner.Owner.{Owner}
use Rattle.records.specs.declared.record.Record.{Record}
use Rattle.proposer.specs.Proposals.{next_ballot}
use Rattle.proposer.specs.VolatileStates.{VolatileState}
use Rattle.proposer.specs.UnderWay.{UnderWay, begins, current_by}
use Rattle.proposer.proofs.Stands.{at_here}
use Rattle.site.specs.declared.answer.Answer.{Answer}
use Rattle.site.specs.declared.fault.SiteFault.{SiteFault}
use Rattle.site.specs.declared.fault.SiteFault.TheVariants as faults
use Rattle.site.specs.Answered.{Keeps, IsAnswered, IsRefused}
use Rattle.site.specs.Calls.{begins_next}
use Rattle.site.specs.Datagrams.{handed_out}
use Rattle.site.specs.Sites.{OpenSite, Represents, IsInOrder}
use Rattle.site.specs.inner.Begun.{Begins, BeginsBallot, next_effect}
use Rattle.site.specs.inner.Concluded.{Concludes}
use Rattle.site.proofs.Conclusions.{concluded}

-- a ballot that was begun is started by the record of its round
current_is : (slot : SlotName) (ballot : BallotNumber) (under : UnderWay)
    → current_by ((begins under slot ballot).begun slot) (entry.Round ballot.round)
    ≡ Some ballot
current_is slot ballot under =
    rw (at_here slot (Some ballot) under.begun, (Decides-eqb ballot.round ballot.round).1 refl)

-- what was begun is one thing
pub refused_as : (begun : Result (Record × Answer) SiteFault) (result : Result Answer SiteFault)
    (is fault : SiteFault) → begun ≡ Err is → result ≡ Err is → begun ≡ Err fault
    → result ≡ Err fault
refused_as begun result is fault e r f = cc

pub not_refused : (begun : Result (Record × Answer) SiteFault) (result : Result Answer SiteFault)
    (x : Record × Answer) (fault : SiteFault) → begun ≡ Ok x → begun ≡ Err fault
    → result ≡ Err fault
not_refused begun result x fault e f = cc

module _ {C : Type 0} (device : C → Device) (old mid : OpenSite C) (slot : SlotName)
    (book : mid.book ≡ old.book) (begun : Result (Record × Answer) SiteFault) (owner : Owner)
    (whose : owner ≡ old.book.owner)
    (begins_so : BeginsBallot owner old.tables mid.tables slot begun) (order : IsInOrder old)
  where
    b : BeginsBallot old.book.owner old.tables mid.tables slot begun
    b = rw whose at begins_so

    -- the tables are in order with the old book's records, whatever comes
    pub mid_order : IsInOrder mid
    mid_order = rw book (record {
      of = b.order old.book.records order.of;
      volatile = (
        order.volatile.0,
        some begun (b.begun old.book.records order.volatile.0
            order.volatile.1.0 order.of order.volatile.1.1),
      );
    })
      where
        some : (r : Result (Record × Answer) SiteFault)
            → Begins old.book.owner mid.tables slot old.book.records order.volatile.0
            order.volatile.1.0 r
            → Represents (record { book = old.book; tables = mid.tables }) order.volatile.0
        some (Ok x) (ballot, next, of_ballot, stands) =
            (begins order.volatile.1.0 slot ballot, stands)
        some (Err faults.RoundsSpent) (none, stands) = (order.volatile.1.0, stands)
        some (Err faults.Memory) (left, after, stands) = (after, stands)
        some (Err fault) x = absurd x

    module _ (volatile : VolatileState) (stands : Represents old volatile) where
      -- it wasn't begun, or memory ran out
      pub not_started : (fault : SiteFault) → begun ≡ Err fault
          → IsAnswered device old mid volatile (next_effect old volatile slot) (Err fault)
      not_started fault is =
          go fault (rw is at (b.begun old.book.records volatile stands.0 order.of stands.1))
        where
          keeps : (r : Option Record) → Keeps device r (Err faults.Memory) old.book mid.book
          keeps None = book
          keeps (Some r) = inl (refl, book)

          go : (f : SiteFault) → Begins old.book.owner mid.tables slot old.book.records volatile
              stands.0 (Err f)
              → IsAnswered device old mid volatile (next_effect old volatile slot) (Err f)
          go faults.RoundsSpent (none, s) =
              rw none (record { keeps = book; gives = (refl, rw book (stands.0, s)) })
          go faults.Memory (left, after, s) = record {
            keeps = keeps (next_effect old volatile slot).commits;
            gives = rw book (after, s);
          }
          go fault x = absurd x

      -- it was begun, and its record is committed
      pub started : (new : OpenSite C) (x : Record × Answer) (result : Result Answer SiteFault)
          → begun ≡ Ok x
          → Concludes device mid new (Some x.0) x.1.line (map handed_out x.1.sends.items) result
          → IsAnswered device old new volatile (next_effect old volatile slot) result
      started new x result is c =
          go (rw is at (b.begun old.book.records volatile stands.0 order.of stands.1))
        where
          go : Begins old.book.owner mid.tables slot old.book.records volatile stands.0 (Ok x)
              → IsAnswered device old new volatile (next_effect old volatile slot) result
          go (ballot, next, of_ballot, s) =
              rw next (concluded device old mid new volatile (begins stands.0 slot ballot)
              (begins_next (quorums_of old.book.owner.members) slot (Some ballot) volatile) None
              (map handed_out x.1.sends.items) result
              (rw (of_ballot.record_is, of_ballot.line) at c) book (rw book s) refl of_ballot.sends
              (λ after. (_, rw (current_is slot ballot stands.0) at after)))

      -- that no round is left is answered
      pub refused_or_started : (result : Result Answer SiteFault)
          → ((fault : SiteFault) → begun ≡ Err fault → result ≡ Err fault)
          → IsRefused (next_effect old volatile slot) result
      refused_or_started result err = go begun refl
          (b.begun old.book.records volatile stands.0 order.of stands.1)
        where
          with_current : (ballot : BallotNumber)
              → next_ballot old.book.owner.site slot old.book.records volatile.heard ≡ Some ballot
              → IsRefused (next_effect old volatile slot) result
          with_current ballot next = rw next (λ fault is. absurd (cc is))

          left : (next : Option BallotNumber)
              → next_ballot old.book.owner.site slot old.book.records volatile.heard ≡ next
              → IsSome next → IsRefused (next_effect old volatile slot) result
          left None is some = absurd (cc some)
          left (Some ballot) is some = with_current ballot is

          go : (r : Result (Record × Answer) SiteFault) → begun ≡ r
              → Begins old.book.owner mid.tables slot old.book.records volatile stands.0 r
              → IsRefused (next_effect old volatile slot) result
          go (Ok x) is (ballot, next, of_ballot, s) = with_current ballot next
          go (Err faults.RoundsSpent) is (none, s) = rw none (λ fault says. err fault (cc))
          go (Err faults.Memory) is (some, after, s) = left _ refl some
          go (Err fault) is x = absurd x
