-- A site whose device fails in a deposit.
use Rattle.std.proofs.Common.{ℕ, ◌≡◌, ◌≤◌, inr, refl, Bool, true, false, List, [], ◌∷◌, Some, arith}
use Rattle.std.specs.Prelude.{Ok, Err}
use Rattle.fed_types.specs.declared.bag_id.BagId.{BagId}
use Rattle.fed_types.specs.Sites.{Membership}
use Rattle.fed_types.specs.Slots.{SlotName}
use Rattle.fed_types.specs.Values.{IsMembership}
use Rattle.cell_device.specs.Images.{at_rest}
use Rattle.bag_check.specs.Check.{check_of}
use Rattle.records.specs.declared.owner.Owner.{Owner}
use Rattle.records.specs.declared.record.Record.{Record}
use Rattle.records.specs.Records.{AreRecords}
use Rattle.records.proofs.Texts.{nothing_says}
use Rattle.proposer.specs.VolatileStates.{new_volatile}
use Rattle.book.specs.declared.fault.CommitFault.TheVariants as commit_faults
use Rattle.book.specs.Committed.{Commits}
use Rattle.book.specs.Opened.{Opens}
use Rattle.site.specs.declared.fault.SiteFault.TheVariants as faults
use Rattle.site.specs.Calls as calls
use Rattle.site.specs.Sites.{OpenSite}
use Rattle.udp_site.specs.Replies.{deposit_answer}
use Rattle.udp_site.specs.Traffic.{From}
use Rattle.udp_site.specs.Turns.{Serving, Done, IsCalled, turn_of, notices_of, deposit_replies}
use Rattle.serving_law.specs.Disks.{Disk, Blank, Holds, bytes_at, journal, device}
use Rattle.serving_law.specs.Examples.{Request, recorded}
use Rattle.serving_law.specs.ExamplesFailed.{WornDisk, worn_device, HasFailed, FailsInADeposit}
use Rattle.serving_law.specs.Federations.{after_all, Step, Starts, new_federation}
use Rattle.serving_law.specs.Rules.{MayAll}
use Rattle.serving_law.proofs.Deaths.{r, its_tables, effect_is, come, is_record, one}
use Rattle.serving_law.proofs.DiskCalls as disks
use Rattle.serving_law.proofs.DiskJournals.{are_like_cells, holds, says, opens_new, opens_again}
use Rattle.serving_law.proofs.DiskJournals.{commits}

abbrev whole : Disk → WornDisk
whole disk = record { disk = disk; failures = 0 }

abbrev failed : Disk → WornDisk
failed disk = record { disk = disk; failures = 1 }

module _ (members : Membership) (is_membership : IsMembership members) (slot : SlotName)
    (bag : BagId) (request : Request members.federation slot bag) where
  abbrev owner : Owner
  owner = disks.owner members is_membership 1

  abbrev its : Record
  its = r members is_membership slot bag

  -- a site over such a disk
  abbrev site_of : WornDisk → List Record → (needs_opening : Bool) → OpenSite WornDisk
  site_of cell records needs = record {
    book = record { cell = cell; records = records; needs_opening = needs; owner = owner };
    tables = its_tables members is_membership slot bag;
  }

  abbrev serving : OpenSite WornDisk → Serving WornDisk
  serving site = record { site = site; volatile = new_volatile; idle = 0; tried = 0 }

  -- what opens the disk opens it
  opens : (disk : Disk) (records : List Record)
      → Opens device owner disk (Ok (holds owner records)) → Opens worn_device owner (whole disk)
      (Ok (site_of (whole (Holds owner records)) records false).book)
  opens disk records o = record {
    records = o.records;
    only = o.only;
    refused = tt;
    durable = o.durable;
    recovers = o.recovers;
    any_moment = record {
      later = o.any_moment.later;
      each = o.any_moment.each;
      before = o.any_moment.before;
    };
    seen_err = tt;
    cause = record { later = omega arith; failed = λ e. absurd (cc e); same = λ other. refl };
    clear = λ e. absurd (cc e);
    whose = (refl, refl);
  }

  -- ---- the call

  abbrev old : Serving WornDisk
  old = serving (site_of (whole (Holds owner [])) [] false)

  abbrev new : Serving WornDisk
  new = serving (site_of (failed (Holds owner (its ∷ []))) [] true)

  done_so : Commits device (holds owner []) its (Ok tt) (holds owner (its ∷ []))
  done_so =
      commits owner is_membership.1 [] tt its (is_record members is_membership slot bag request)

  fails_so : Commits worn_device old.site.book its (Err commit_faults.Device) new.site.book
  fails_so = record {
    committed = tt;
    durable = tt;
    recovers = tt;
    device_failed = λ e. (refl, refl);
    memory = λ e. absurd (cc e);
    any_moment = record {
      later = done_so.any_moment.later;
      each = done_so.any_moment.each;
      before = done_so.any_moment.before;
    };
    cause = record { later = omega arith; failed = λ e. refl; same = λ other. absurd (other refl) };
    fuse = λ f e. absurd (cc e);
    calls = λ f e. absurd (cc e);
    whose = refl;
  }

  called : IsCalled worn_device old (calls.Deposits slot (check_of request.facts))
      (Err faults.Device) new
  called = record {
    answered = λ opened.
        rw (effect_is members is_membership slot bag request)
        (record { keeps = inr fails_so; gives = refl });
    refused = λ needs. absurd (cc needs);
    volatile = refl;
    idle = refl;
    tried = refl;
  }

  abbrev done : Done
  done = record {
    posts =
        deposit_replies members.federation 1 request.address slot
        (deposit_answer (Err faults.Device));
    notices = notices_of 1 (calls.Deposits slot (check_of request.facts)) (Err faults.Device);
  }

  abbrev step : Step WornDisk
  step = record {
    addresses = [];
    folders = λ path. Ok request.facts;
    turn = record { took = From request.address request.bytes; done = done };
    next = new;
  }

  comes : turn_of worn_device [] (Some step.folders) old (From request.address request.bytes) done
      new
  comes =
      rw request.asked (Ok request.facts, refl, (Err faults.Device, called, refl))

  -- ---- the histories

  has_failed : (records : List Record) → AreRecords records → (k : ℕ) → 1 ≤ k → k ≤ 2
      → journal owner records ≡ bytes_at (Holds owner (its ∷ [])) k
      → HasFailed members slot bag request.address records
  unfolding MayAll new_federation after_all
  has_failed records are k from to is = record {
    start = Starts 1 (whole Blank) (site_of (whole (Holds owner [])) [] false);
    step = step;
    cell = whole (Holds owner records);
    site = site_of (whole (Holds owner records)) records false;
    happens = (
      (
        one members is_membership slot bag request,
        ([], refl, record { image = at_rest []; told = refl; says = nothing_says owner }),
        opens Blank [] (opens_new owner is_membership.1),
      ),
      (
        (
          old,
          (one members is_membership slot bag request, refl),
          record { may_come = come members is_membership slot bag request; comes = comes },
          refl,
          record {
            told = refl;
            bytes = journal owner records;
            left = (k, from, to, is);
            says = says owner is_membership.1 records are;
          },
        ),
        (
          (
            one members is_membership slot bag request,
            (
              records,
              refl,
              record {
                image = at_rest (journal owner records);
                told = refl;
                says = says owner is_membership.1 records are;
              },
            ),
            opens (Holds owner records) records (opens_again owner is_membership.1 records are),
          ),
          tt,
        ),
      ),
    );
    renews = (
      (
        one members is_membership slot bag request,
        ([], refl, record { image = at_rest []; told = refl; says = nothing_says owner }),
        opens Blank [] (opens_new owner is_membership.1),
      ),
      ((old, (one members is_membership slot bag request, refl)), tt),
    );
    may_come = refl;
    replies = refl;
    has = refl;
  }

  pub both : HasFailed members slot bag request.address []
      × HasFailed members slot bag request.address (recorded slot bag ∷ [])
  both = (
    has_failed [] tt 1 (omega arith) (omega arith) refl,
    has_failed (its ∷ []) (is_record members is_membership slot bag request, tt) 2 (omega arith)
        (omega arith) refl,
  )

pub fails_in_a_deposit : FailsInADeposit
fails_in_a_deposit = record {
  like_cells = record {
    seen_now = λ worn. are_like_cells.seen_now worn.disk;
    counts_now = λ worn. are_like_cells.counts_now worn.disk;
    only_now = λ worn. are_like_cells.only_now worn.disk;
  };
  fails = λ members slot bag request is. both members is slot bag request;
}
