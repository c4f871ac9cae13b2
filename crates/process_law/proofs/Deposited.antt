-- A process that takes a deposit, over a new disk.
use Rattle.std.proofs.Common.{◌≡◌, ℕ, inl, inr, refl, false, List, [], ◌∷◌, ◌++◌, append-nil, Some}
use Rattle.std.proofs.Common.{arith}
use Rattle.std.specs.Prelude.{Result, Ok}
use Rattle.bag_tree.specs.declared.fault.TreeFault.{TreeFault}
use Rattle.bag_tree.specs.Facts.{TreeFacts}
use Rattle.fed_types.specs.declared.bag_id.BagId.{BagId}
use Rattle.fed_types.specs.Sites.{Membership, members_of}
use Rattle.fed_types.specs.Slots.{SlotName}
use Rattle.fed_types.specs.Values.{IsMembership}
use Rattle.fed_types.specs.Laws.Lists.{is_in_decides}
use Rattle.cell_device.specs.declared.fuse.FuseState.TheVariants.{Clear}
use Rattle.cell_device.specs.Images.{at_rest}
use Rattle.cell_device.specs.States.{after_call}
use Rattle.lines.specs.declared.notice.Notice.TheVariants.{Registered}
use Rattle.records.specs.declared.owner.Owner.{Owner}
use Rattle.records.specs.declared.record.Record.{Record}
use Rattle.records.specs.Records.{IsRecord}
use Rattle.records.proofs.Texts.{nothing_says}
use Rattle.book.specs.declared.waiting.Waiting.{Waiting}
use Rattle.book.specs.Batches.{BatchCell, Syncs}
use Rattle.book.specs.Committed.{Commits}
use Rattle.book.specs.OpenBooks.{OpenBook}
use Rattle.records.specs.SlotStates.{known_of, used_of}
use Rattle.dgram.specs.Heard.{bodies_of, floor_of, voters_for}
use Rattle.learner.specs.declared.row.Row.TheVariants as rows
use Rattle.proposer.specs.Rows.{empty_row}
use Rattle.proposer.specs.UnderWay.{nothing}
use Rattle.proposer.specs.VolatileStates.{new_volatile}
use Rattle.site.specs.Batches.{no_cell}
use Rattle.site.specs.Calls as calls
use Rattle.site.specs.Sites.{OpenSite}
use Rattle.site.specs.Contents.{Represents}
use Rattle.bag_check.specs.Check.{check_of}
use Rattle.udp_site.specs.BatchTurns.{Batch, Batching, Batches, Shows, begins_with}
use Rattle.udp_site.specs.Served.{Outside, notice_text}
use Rattle.udp_site.specs.Traffic.{From, all_handed}
use Rattle.udp_site.specs.Turns.{Done, IsCalled, turn_of}
use Rattle.serving_law.specs.Disks.{Disk, Holds, device, journal}
use Rattle.serving_law.specs.Examples.{Request, recorded}
use Rattle.serving_law.proofs.Answers.{seals_are}
use Rattle.serving_law.proofs.Deaths as deaths
use Rattle.serving_law.proofs.DiskCalls.{owner}
use Rattle.serving_law.proofs.DiskJournals.{holds, opens_new, says, commits}
use Rattle.serving_law.proofs.Tables.{stands}
use Rattle.process_law.specs.Examples.{TakesADeposit, AProcessTakesADeposit, nothing_yet, all_done}

-- the site's list of records alone
abbrev book_of : Owner → List Record → OpenBook Waiting
book_of whose records = record {
  cell = record { nothing = tt };
  records = records;
  needs_opening = false;
  owner = whose;
}

-- a record is put in the list
commits_waiting : (whose : Owner) (r : Record)
    → Commits no_cell (book_of whose []) r (Ok tt) (book_of whose (r ∷ []))
unfolding after_call
commits_waiting whose r = record {
  committed = (refl, refl);
  durable = tt;
  recovers = tt;
  device_failed = λ e. absurd (cc e);
  memory = λ e. absurd (cc e);
  any_moment = record {
    later = omega arith;
    each = λ c left. tt;
    before = λ t c within left. inl tt;
  };
  cause = record { later = omega arith; failed = λ e. absurd (cc e); same = λ other. refl };
  fuse = λ f e. let is : f ≡ Clear = cc e in rw is (refl, refl);
  calls = λ f e.
      let is : f ≡ Clear = cc e in rw is (record { image = refl; fuse = refl; failures = refl });
  whose = refl;
}

-- and then it is synced on the disk
synced : (whose : Owner) (r : Record)
    → Commits device (holds whose []) r (Ok tt) (holds whose (r ∷ []))
    → Syncs device (holds whose []) (r ∷ []) (Ok tt) (holds whose (r ∷ []))
synced whose r does = record {
  committed = (refl, refl);
  durable = does.durable;
  recovers = does.recovers;
  device_failed = λ e. absurd (cc e);
  memory = λ e. absurd (cc e);
  any_moment = record {
    later = does.any_moment.later;
    each = λ c left. elim (does.any_moment.each c left) [
      | inl before ↦ (0, before)
      | inr after ↦ (1, after)
    ];
    before = λ t c within left. elim (does.any_moment.before t c within left) [
      | inl past ↦ inl past
      | inr (inl before) ↦ inr (0, before)
      | inr (inr after) ↦ inr (1, after)
    ];
  };
  cause = does.cause;
  fuse = λ some f e. absurd (cc e);
  calls = λ some f e. absurd (cc e);
  nothing = λ none. absurd (cc none);
  whose = refl;
}

-- a line that alone is written
it_alone : (line : List ℕ) → line ≡ (((line ++ []) ++ []) ++ []) ++ []
it_alone line = simp append-nil

module _ (members : Membership) (is_membership : IsMembership members) (slot : SlotName)
    (bag : BagId) (request : Request members.federation slot bag) where
  abbrev its : Owner
  its = owner members is_membership 1

  abbrev r : Record
  r = recorded slot bag

  abbrev folders : List ℕ → Result TreeFacts TreeFault
  folders = (deaths.step members is_membership slot bag request).folders

  abbrev done : Done
  done = deaths.done members is_membership slot bag request

  is_record : IsRecord r
  is_record = deaths.is_record members is_membership slot bag request

  -- ---- the site

  abbrev pub opened : OpenSite Disk
  opened = record {
    book = holds its [];
    tables = deaths.its_tables members is_membership slot bag;
  }

  abbrev pub site : List Record → OpenSite Waiting
  site records = record {
    book = book_of its records;
    tables = deaths.its_tables members is_membership slot bag;
  }

  abbrev pub held : List Record → (synced : ℕ) → BatchCell Disk
  held records synced = record {
    cell = Holds its records;
    synced = synced;
    needs_opening = false;
  }

  abbrev pub start : Batching Disk
  start = begins_with (site []) (held [] 0) new_volatile

  abbrev end : Batching Disk
  end = begins_with (site (r ∷ [])) (held (r ∷ []) 1) new_volatile

  first_stands : Represents (deaths.its_tables members is_membership slot bag) [] new_volatile
      nothing
  unfolding floor_of bodies_of voters_for used_of known_of
  first_stands =
      stands slot members 1 [] [] new_volatile refl (λ s f. refl)
      (record { own = empty_row; heard = rows.Unheard })
      (record { used = refl; floor = refl; begun = refl; current = tt; waiting = refl })
      refl (λ none vote n. refl)

  -- ---- its turn

  called : IsCalled no_cell start.serving (calls.Deposits slot (check_of request.facts))
      (Ok (deaths.answer members is_membership slot bag)) end.serving
  called =
      let is = deaths.effect_is members is_membership slot bag request in record {
        answered = λ opened.
            rw is (record {
              keeps = inr (commits_waiting its r);
              gives = (
                refl,
                seals_are members.federation [] tt,
                (nothing, deaths.it_stands members is_membership slot bag),
              );
            });
        refused = λ needs. absurd (cc needs);
        volatile = rw is;
        idle = refl;
        tried = refl;
      }

  comes : turn_of no_cell [] (Some folders) start.serving (From request.address request.bytes) done
      end.serving
  comes =
      rw request.asked
      (Ok request.facts, refl, (Ok (deaths.answer members is_membership slot bag), called, refl))

  -- ---- its batch

  abbrev batch : Batch
  batch = record {
    came = From request.address request.bytes ∷ [];
    turns = (deaths.step members is_membership slot bag request).turn ∷ [];
  }

  made : Batches device (turn_of no_cell [] (Some folders)) start batch (Ok tt) end
  made = record {
    took = refl;
    together = omega arith;
    follow = (end.serving, comes, refl);
    synced = record {
      syncs = λ opened. synced its r (commits its is_membership.1 [] tt r is_record);
      needs_open = λ shut. absurd (cc shut);
    };
  }

  abbrev ended : Outside
  ended = all_done members slot bag request

  shows : Shows nothing_yet ended (batch ∷ []) [] []
  unfolding all_handed
  shows = (refl, it_alone (notice_text (Registered 1 slot bag)))

  pub takes_a_deposit : TakesADeposit members slot bag request
  takes_a_deposit = record {
    folders = folders;
    told = λ cell. refl;
    reads = record { image = at_rest []; told = refl; says = nothing_says its };
    process = record {
      member =
          (is_in_decides (members_of members) 1).1
          (deaths.one members is_membership slot bag request);
      membership = is_membership;
      opened = opened;
      opens = opens_new its is_membership.1;
      site = site [];
      held = held [] 0;
      parted = record {
        records = refl;
        owner = refl;
        waits = refl;
        represents = (nothing, first_stands);
        cell = refl;
        synced = refl;
        needs_opening = refl;
      };
      served = record {
        end = end;
        calls = (batch ∷ []) ∷ [];
        result = Ok tt;
        ended = ended;
        serves = (refl, (end, ended, (refl, refl, ((end, made, refl), shows)), (refl, refl)));
        still = refl;
        concluded = (refl, refl);
      };
    };
    recovers = record {
      told = refl;
      bytes = journal its (r ∷ []);
      left = (2, omega arith, omega arith, refl);
      says = says its is_membership.1 (r ∷ []) (is_record, tt);
    };
  }

pub a_process_takes_a_deposit : AProcessTakesADeposit
a_process_takes_a_deposit members slot bag request is = takes_a_deposit members is slot bag request
