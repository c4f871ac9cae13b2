-- An opening that ends for want of the tables' memory.
use Rattle.std.proofs.Common.{◌≡◌, inr, List, Option, Some, None, Ok, Err, refl}
use Rattle.cell_device.specs.Devices.{Device}
use Rattle.cell_device.specs.Images.{Image, IfKnown}
use Rattle.records.specs.declared.owner.Owner.{Owner}
use Rattle.records.specs.declared.record.Record.{Record}
use Rattle.book.specs.declared.fault.OpenFault.TheVariants as faults
use Rattle.book.specs.Opened.{LeavesAlike, Opens}
use Rattle.book.specs.OpenBooks.{OpenBook, ReadSays, RecoversTo}

-- what is so of each is so where one is known
pub if_known : {X : Type 0} {P : X → Type 0} (o : Option X) → ((x : X) → P x) → IfKnown o P
if_known None all = tt
if_known (Some x) all = all x

-- a cell that recovers to the records that a read of it said before
pub says_alike : (owner : Owner) (records : List Record) (old new : Option Image)
    → ReadSays owner old (Ok records) → RecoversTo owner records new
    → IfKnown new (λ i. LeavesAlike owner old i.seen)
says_alike owner records old None read recovers = tt
says_alike owner records None (Some i) read recovers = tt
says_alike owner records (Some o) (Some i) read recovers = inr (records, read, recovers.0)

-- the book was opened, and is closed again
pub closed_again : {C : Type 0} (device : C → Device) (owner : Owner) (cell after : C)
    (book : OpenBook C) → after ≡ book.cell → Opens device owner cell (Ok book)
    → Opens device owner cell (Err (after, faults.Memory))
closed_again device owner cell after book same o = record {
  records = tt;
  only = λ said. if_known (device cell).image (λ i says. inr (inr refl));
  refused = tt;
  durable = tt;
  recovers = tt;
  any_moment = rw same o.any_moment;
  seen_err = rw same (says_alike owner book.records (device cell).image (device book.cell).image
      o.records o.recovers);
  cause = record {
    later = rw same o.cause.later;
    failed = λ e. absurd (cc e);
    same = λ no. rw same (o.cause.same (λ e. absurd (cc e)));
  };
  clear = λ is. (rw same (o.clear is).0, λ e. absurd (cc e));
  whose = tt;
}
