-- A batch that isn't synced: turns happen one after another, of which nothing is handed out or
-- written; and then the process ends.
use Rattle.std.proofs.Common.{◌≡◌, ℕ, suc, false, List, [], ◌∷◌, ◌++◌, length, map, take, Some}
use Rattle.std.proofs.Common.{Result, refl, le_refl}
use Rattle.std.proofs.Math.Seq.{take-length}
use Rattle.std.proofs.lemmas.List.{map-append}
use Rattle.fed_types.specs.Lists.{Has}
use Rattle.fed_types.specs.Sites.{Membership}
use Rattle.fed_types.specs.Values.{IsMembership}
use Rattle.fed_types.specs.Laws.Lists.{has_left}
use Rattle.bag_tree.specs.declared.fault.TreeFault.{TreeFault}
use Rattle.bag_tree.specs.Facts.{TreeFacts}
use Rattle.records.specs.declared.owner.Owner.{Owner}
use Rattle.records.specs.declared.record.Record.{Record}
use Rattle.records.specs.Records.{AreRecords}
use Rattle.book.specs.declared.waiting.Waiting.{Waiting}
use Rattle.site.specs.Batches.{no_cell}
use Rattle.site.proofs.Batched.{Grows}
use Rattle.udp_site.specs.Traffic.{Taken}
use Rattle.udp_site.specs.Turns.{Serving, members, number, turn_of}
use Rattle.udp_site.specs.Served.{Turned}
use Rattle.udp_site.specs.BatchTurns.{Follow, took_by}
use Rattle.udp_site.proofs.WaitingTurns.{followed}
use Rattle.serving_law.specs.Disks.{Disk, Holds, device, journal}
use Rattle.serving_law.specs.Federations.{Federation, Happening, Ends, after, after_all}
use Rattle.serving_law.specs.Rules.{MayCome, IsServing, MayAll, MayRecoverTo}
use Rattle.serving_law.proofs.DiskJournals.{says}
use Rattle.batch_law.specs.Laws.{UnsyncedBatchesAreTurns}
use Rattle.batch_law.specs.OnDisks.{on_disk, unseen, steps_of}
use Rattle.batch_law.proofs.FirstTurns.{firsts}
use Rattle.batch_law.proofs.WholeBatches.{all_happen}

-- all of these may happen, and then all of those
both_happen : (ms : Membership) (f : Federation Disk) (first then : List (Happening Disk))
    → MayAll device ms f first → MayAll device ms (after_all f first) then
    → MayAll device ms f (first ++ then)
unfolding MayAll after_all
both_happen ms f [] then happen may = may
both_happen ms f (h ∷ first) then (now, happen) may =
    (now, both_happen ms (after f h) first then happen may)

-- a disk keeps its records
pub recovers : (owner : Owner) (records : List Record) (n : ℕ) → owner.site ≡ n
    → IsMembership owner.members → AreRecords records
    → MayRecoverTo (record { members = owner.members; site = n })
    (device (Holds owner records)) (device (Holds owner records)) records
recovers owner records n is membership are = record {
  told = refl;
  bytes = journal owner records;
  left = (
    suc (length records),
    le_refl _,
    le_refl _,
    rw (take-length records),
  );
  says = rw (← is) (says owner membership.1 records are);
}

-- the turns happen, and then the process ends
unseen_end : (n : ℕ) (addresses : List ℕ) (folders : List ℕ → Result TreeFacts TreeFault)
    (ms : Membership) → IsMembership ms → (turns : List Turned) (f : Federation Disk)
    (old next : Serving Waiting)
    (follow : Follow (turn_of no_cell addresses (Some folders)) old turns next)
    → members old ≡ ms → number old ≡ n → old.site.book.needs_opening ≡ false
    → AreRecords next.site.book.records → IsServing device ms f n (on_disk old)
    → ((took : Taken) → Has took (took_by turns) → MayCome ms f.handed took)
    → (records : List Record) → next.site.book.records ≡ records
    → MayAll device ms f
    (map (unseen n) (steps_of addresses folders old next turns follow) ++ Ends n records ∷ [])
unfolding MayAll
unseen_end n addresses folders ms is turns f old next follow of site opened are serving may records
    left =
    let happen = all_happen n addresses folders ms is (λ step. 0) (λ step. 0) turns f old next
    follow of opened are serving may in
    let grows : Grows old.site.book next.site.book =
    followed addresses (Some folders) old next turns opened follow in
    let members_are : members next ≡ ms = rw grows.owner of in
    both_happen ms f (map (unseen n) (steps_of addresses folders old next turns follow))
    (Ends n records ∷ []) happen.0 (
      (
        on_disk next,
        happen.1,
        rw (← left, ← members_are)
            (recovers next.site.book.owner next.site.book.records n (rw grows.owner site)
            (rw members_are is) are),
      ),
      tt,
    )

pub unsynced_batches : UnsyncedBatchesAreTurns
unsynced_batches n f addresses folders old next turns new k follow are_new is site opened are
    serving may =
    let part = firsts addresses (Some folders) turns old next k opened follow in
    let left = part.5 new are_new in (
      part.0,
      part.1,
      part.2,
      part.3,
      part.4,
      unseen_end n addresses folders (members old) is part.0 f old part.3 part.4 refl site opened
          (rw left are) serving
          (λ took has. may took (rw (← part.2, map-append (λ (t : Turned). t.took) part.0 part.1)
          (has_left _ has)))
          (old.site.book.records ++ take k new) left,
    )
