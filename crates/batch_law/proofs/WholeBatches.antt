-- The turns of a batch happen one after another.
use Rattle.std.proofs.Common.{◌≡◌, ℕ, false, List, [], ◌∷◌, ◌++◌, length, map, Some, Result}
use Rattle.std.proofs.Common.{refl, sym, ◌∙◌, append-nil, append_assoc, eq-eqb}
use Rattle.std.proofs.Math.Seq.{take-length}
use Rattle.fed_types.specs.Lists.{Has, here, there}
use Rattle.fed_types.specs.Laws.Lists.{has_left}
use Rattle.fed_types.specs.Sites.{Membership}
use Rattle.fed_types.specs.Values.{IsMembership}
use Rattle.bag_tree.specs.declared.fault.TreeFault.{TreeFault}
use Rattle.bag_tree.specs.Facts.{TreeFacts}
use Rattle.records.specs.declared.record.Record.{Record}
use Rattle.records.specs.Records.{AreRecords}
use Rattle.book.specs.declared.waiting.Waiting.{Waiting}
use Rattle.site.specs.Batches.{no_cell}
use Rattle.site.proofs.Batched.{Grows}
use Rattle.udp_site.specs.Traffic.{Post, Taken, Nothing, From}
use Rattle.udp_site.specs.Turns.{Serving, members, turn_of}
use Rattle.udp_site.specs.Served.{Turned, text_of}
use Rattle.udp_site.specs.BatchTurns.{Follow, took_by, posts_of}
use Rattle.udp_site.proofs.WaitingTurns.{followed, followed_by}
use Rattle.serving_law.specs.Disks.{Disk, device}
use Rattle.serving_law.specs.Federations.{Federation, Step, Happening, Turns, after, after_all}
use Rattle.serving_law.specs.Rules.{MayCome, IsServing, MayAll}
use Rattle.batch_law.specs.Laws.{BatchesAreTurns}
use Rattle.batch_law.specs.OnDisks.{on_disk, whole, steps_of}
use Rattle.batch_law.proofs.DiskTurns.{turn_on}

-- the first of some records are records
pub first_are : (rs more : List Record) → AreRecords (rs ++ more) → AreRecords rs
first_are [] more are = tt
first_are (r ∷ rs) more (is, are) = (is, first_are rs more are)

-- what may come may come where more was handed out
may_still_come : (ms : Membership) (handed more : List Post) (took : Taken)
    → MayCome ms handed took → MayCome ms (handed ++ more) took
may_still_come ms handed more Nothing may = may
may_still_come ms handed more (From address bytes) (are, may) =
    (are, λ message says of. let was = may message says of in (was.0, has_left more was.1))

module _ (n : ℕ) (addresses : List ℕ) (folders : List ℕ → Result TreeFacts TreeFault) where
  abbrev Leads : (old : Serving Waiting) → List Turned → (next : Serving Waiting) → Type 0
  Leads old turns next = Follow (turn_of no_cell addresses (Some folders)) old turns next

  -- of each turn so many datagrams are handed out, and so many bytes written
  module _ (ms : Membership) (is : IsMembership ms) (handed written : Step Disk → ℕ) where
    abbrev shown : Step Disk → Happening Disk
    shown step = Turns n step (handed step) (written step)

    abbrev history : (old next : Serving Waiting) (turns : List Turned)
        → Leads old turns next → List (Happening Disk)
    history old next turns follow = map shown (steps_of addresses folders old next turns follow)

    pub all_happen : (turns : List Turned) (f : Federation Disk) (old next : Serving Waiting)
        (follow : Leads old turns next)
        → members old ≡ ms → old.site.book.needs_opening ≡ false
        → AreRecords next.site.book.records → IsServing device ms f n (on_disk old)
        → ((took : Taken) → Has took (took_by turns) → MayCome ms f.handed took)
        → MayAll device ms f (history old next turns follow)
        × IsServing device ms (after_all f (history old next turns follow)) n (on_disk next)
    unfolding MayAll after_all
    all_happen [] f old next follow of opened are serving may = (tt, rw follow at serving)
    all_happen (turn ∷ turns) f old next (mid, comes, follow) of opened are serving may =
        let first : Grows old.site.book mid.site.book =
        followed_by addresses (Some folders) old old mid [] turn opened refl comes in
        let open_mid : mid.site.book.needs_opening ≡ false = first.opened ∙ opened in
        let later : Grows mid.site.book next.site.book =
        followed addresses (Some folders) mid next turns open_mid follow in
        let are_mid : AreRecords mid.site.book.records =
        first_are mid.site.book.records later.more (rw later.records at are) in
        let step : Step Disk = record {
          addresses = addresses;
          folders = folders;
          turn = turn;
          next = on_disk mid;
        } in
        let rest = all_happen turns (after f (shown step)) mid next follow (rw first.owner of)
        open_mid are (serving.0, rw (eq-eqb n n refl))
        (λ took has. may_still_come ms f.handed _ took (may took (there has))) in (
          (
            (
              on_disk old,
              serving,
              record {
                may_come = may turn.took (here refl);
                comes =
                    turn_on addresses (Some folders) old mid turn.took turn.done (rw of is) opened
                    are_mid comes;
              },
              open_mid,
            ),
            rest.0,
          ),
          rest.1,
        )

  -- where the turns are whole, all is handed out
  all_handed : (turns : List Turned) (f : Federation Disk) (old next : Serving Waiting)
      (follow : Leads old turns next)
      → (after_all f (map (whole n) (steps_of addresses folders old next turns follow))).handed
      ≡ f.handed ++ posts_of turns
  unfolding after_all
  all_handed [] f old next follow = sym (append-nil f.handed)
  all_handed (turn ∷ turns) f old next (mid, comes, follow) =
      let posts = turn.done.posts in
      all_handed turns _ mid next follow
      ∙ rw (take-length posts, append_assoc f.handed posts (posts_of turns))

pub whole_batches : BatchesAreTurns
whole_batches n f addresses folders old next turns follow is opened are serving may =
    let happen = all_happen n addresses folders (members old) is
    (λ step. length step.turn.done.posts) (λ step. length (text_of step.turn)) turns f old next
    follow refl opened are serving may in
    (happen.0, happen.1, all_handed n addresses folders turns f old next follow)
