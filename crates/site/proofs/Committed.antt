-- What a commit makes of a site, by how it came out.
use Rattle.std.proofs.Common.{◌≡◌, inl, inr, [], ◌∷◌, ◌++◌, Result, Ok, Err, refl}
use Rattle.cell_device.specs.Devices.{Device}
use Rattle.records.specs.declared.record.Record.{Record}
use Rattle.book.specs.declared.fault.CommitFault.{CommitFault}
use Rattle.book.specs.declared.fault.CommitFault.TheVariants as commits
use Rattle.proposer.specs.VolatileStates.{VolatileState}
use Rattle.proposer.specs.UnderWay.{UnderWay}
use Rattle.site.specs.Contents.{Contents, IsOf, RepresentsSame}
use Rattle.site.specs.Contents as tables
use Rattle.site.specs.declared.fault.SiteFault.{SiteFault}
use Rattle.site.specs.declared.fault.SiteFault.TheVariants as faults
use Rattle.book.specs.Committed.{Commits}
use Rattle.site.specs.Faults.{commit_fault}
use Rattle.site.specs.Sites.{OpenSite, IsInOrder}
use Rattle.site.specs.inner.Concluded.{Stands, noted_volatile, noted_under, IsCommitted}

module _ {C : Type 0} (device : C → Device) (old new : OpenSite C) (r : Record) where
  -- tables that represent the same, over the same records
  module _ (records : new.book.records ≡ old.book.records) (owner : new.book.owner ≡ old.book.owner)
      (same : RepresentsSame old.tables new.tables) where
    pub same_stands : (volatile : VolatileState) (under : UnderWay) → Stands old volatile under
        → Stands new volatile under
    same_stands volatile under stands =
        rw records (same.stands old.book.records volatile under stands)

    pub same_order : IsInOrder old → IsInOrder new
    same_order order = record {
      of = rw (records, owner) (same.of old.book.owner old.book.records order.of);
      volatile = (
        order.volatile.0,
        (
          order.volatile.1.0,
          same_stands order.volatile.0 order.volatile.1.0 order.volatile.1.1,
        ),
      );
    }

  -- memory ran out before the commit
  pub not_tried : (result : Result (Unit {0}) SiteFault) → result ≡ Err faults.Memory
      → new.book ≡ old.book → RepresentsSame old.tables new.tables
      → IsCommitted device old new r result
  not_tried result is book same =
      rw is (record {
        book = inl (refl, book);
        stands = tt;
        same = same_stands (cc) (cc) same;
        faults = inl refl;
        order = same_order (cc) (cc) same;
      })

  -- the commit was refused
  pub refused : (result : Result (Unit {0}) SiteFault) (fault : CommitFault)
      → result ≡ Err (commit_fault fault) → ¬ (fault ≡ commits.NeedsOpen)
      → Commits device old.book r (Err fault) new.book → RepresentsSame old.tables new.tables
      → IsCommitted device old new r result
  refused result commits.Device is opened c same =
      rw is (record {
        book = inr c;
        stands = tt;
        same = same_stands (c.device_failed refl).0 c.whose same;
        faults = inr refl;
        order = same_order (c.device_failed refl).0 c.whose same;
      })
  refused result commits.Memory is opened c same =
      rw is (record {
        book = inr c;
        stands = tt;
        same = same_stands (c.memory refl).records c.whose same;
        faults = inl refl;
        order = same_order (c.memory refl).records c.whose same;
      })
  refused result commits.NeedsOpen is opened c same = absurd (opened refl)

  -- the record was committed, and noted in tables that represented the same
  pub done : (mid : Contents) → Commits device old.book r (Ok tt) new.book
      → RepresentsSame old.tables mid
      → (IsOf mid old.book.owner old.book.records
      → IsOf new.tables old.book.owner (old.book.records ++ r ∷ []))
      → ((volatile : VolatileState) (under : UnderWay)
      → tables.Represents mid old.book.records volatile under
      → tables.Represents new.tables (old.book.records ++ r ∷ []) (noted_volatile volatile under r)
      (noted_under under r))
      → IsCommitted device old new r (Ok tt)
  done mid c same of stands = record {
    book = inr c;
    stands = all_stands;
    same = tt;
    faults = tt;
    order = λ order. record {
      of = rw (c.committed.0, c.whose) (of (same.of old.book.owner old.book.records order.of));
      volatile = (
        noted_volatile order.volatile.0 order.volatile.1.0 r,
        (
          noted_under order.volatile.1.0 r,
          all_stands order.volatile.0 order.volatile.1.0 order.volatile.1.1,
        ),
      );
    };
  }
    where
      all_stands : (volatile : VolatileState) (under : UnderWay) → Stands old volatile under
          → Stands new (noted_volatile volatile under r) (noted_under under r)
      all_stands volatile under s =
          rw (c.committed.0) (stands volatile under (same.stands old.book.records volatile under s))
