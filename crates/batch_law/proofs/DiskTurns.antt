-- A turn of a site whose records wait is a turn of that site on a disk.
use Rattle.std.proofs.Common.{◌≡◌, ℕ, Bool, true, false, List, [], ◌∷◌, Option, Some, Result, Ok}
use Rattle.std.proofs.Common.{Err, refl}
use Rattle.fed_types.specs.declared.bag_id.BagId.{BagId}
use Rattle.fed_types.specs.Slots.{SlotName}
use Rattle.fed_types.specs.Values.{IsMembership}
use Rattle.bag_tree.specs.declared.fault.TreeFault.{TreeFault}
use Rattle.bag_tree.specs.Facts.{TreeFacts}
use Rattle.bag_check.specs.Check.{check_of}
use Rattle.records.specs.Records.{AreRecords}
use Rattle.book.specs.declared.waiting.Waiting.{Waiting}
use Rattle.site.specs.declared.answer.Answer.{Answer}
use Rattle.site.specs.declared.answer.Reply.{Reply}
use Rattle.site.specs.declared.answer.Reply.TheVariants as replies
use Rattle.site.specs.declared.fault.SiteFault.{SiteFault}
use Rattle.site.specs.declared.fault.SiteFault.TheVariants as faults
use Rattle.site.specs.Answered.{Gives}
use Rattle.site.specs.Batches.{no_cell}
use Rattle.site.specs.Calls as calls
use Rattle.site.specs.Calls.{Input}
use Rattle.site.specs.Effects.{Effect}
use Rattle.site.specs.Sites.{effect}
use Rattle.site.proofs.Refused.{needs_none}
use Rattle.proposer.specs.VolatileStates.{VolatileState}
use Rattle.udp_site.specs.Requests.{Request, Waits, Says, Deposits, Queries, Recovers, Noise}
use Rattle.udp_site.specs.Requests.{request_of}
use Rattle.udp_site.specs.Traffic.{Taken}
use Rattle.udp_site.specs.Turns.{Serving, Done, IsCalled, Asks, members, takes_tree, proposes}
use Rattle.udp_site.specs.Turns.{idles_if, comes_of, turn_of, tries, one_more_idle, slot_of, asked}
use Rattle.udp_site.specs.Turns.{answer_to}
use Rattle.udp_site.specs.Rounds.{next_waiting}
use Rattle.serving_law.specs.Disks.{device}
use Rattle.batch_law.specs.OnDisks.{on_disk}
use Rattle.batch_law.proofs.DiskBooks.{IsReady, keeps_on}

-- what a call gives it gives on a disk too
gives_on : (old new : Serving Waiting) (volatile : VolatileState) (e : Effect)
    (result : Result Answer SiteFault) → Gives old.site new.site volatile e result
    → Gives (on_disk old).site (on_disk new).site volatile e result
gives_on old new volatile e (Err faults.Memory) gives = gives
gives_on old new volatile e _ gives = gives

-- those that are asked are the same
asks_on : (addresses : List ℕ) (s : Serving Waiting) (slot : SlotName) (others : List ℕ)
    (done : Done) → Asks addresses s slot others done
    → Asks addresses (on_disk s) slot others done
asks_on addresses s slot [] done is = is
asks_on addresses s slot (member ∷ others) done (rest, asks, is) =
    (rest, asks_on addresses s slot others rest asks, is)

asked_on : (s : Serving Waiting) (reply : Result (Reply BagId) SiteFault)
    → asked s reply ≡ asked (on_disk s) reply
asked_on s (Ok (replies.Known bag)) = refl
asked_on s _ = refl

module _ (addresses : List ℕ) (new : Serving Waiting) (done : Done)
    (are : AreRecords new.site.book.records) where
  called : (old : Serving Waiting) → IsReady old.site.book
      → (input : Input) (result : Result Answer SiteFault)
      → IsCalled no_cell old input result new
      → IsCalled device (on_disk old) input result (on_disk new)
  called old ready input result is =
      let answered = is.answered ready.opened in
      let e = effect old.site old.volatile input in
      record {
        answered = λ still. record {
          keeps =
              keeps_on old.site.book new.site.book ready are e.commits result
              (needs_none no_cell old.site new.site old.volatile e result answered)
              answered.keeps;
          gives = gives_on old new old.volatile e result answered.gives;
        };
        refused = λ shut. absurd (cc (ready.opened, shut));
        volatile = is.volatile;
        idle = is.idle;
        tried = is.tried;
      }

  proposed : (old : Serving Waiting) (place : Option ℕ) (slot : Option SlotName)
      → IsReady old.site.book → proposes no_cell addresses old place slot done new
      → proposes device addresses (on_disk old) place slot done (on_disk new)
  proposed old (Some place) (Some slot) ready (result, called_so, refuses, is) = (
    result,
    called (tries old place) ready (calls.Proposes slot) result called_so,
    refuses,
    is,
  )
  proposed old place slot ready comes = (comes.0, rw comes.1)

  idled : (turn : Bool) (s : Serving Waiting) → IsReady s.site.book
      → idles_if turn no_cell addresses s done new
      → idles_if turn device addresses (on_disk s) done (on_disk new)
  idled true s ready comes =
      proposed s (next_waiting s.site.book.records s.tried)
      (slot_of s.site.book.records (next_waiting s.site.book.records s.tried)) ready comes
  idled false s ready (is, unchanged) = (is, rw unchanged)

  deposited : (old : Serving Waiting) (client : ℕ) (slot : SlotName)
      (read : Result TreeFacts TreeFault) → IsReady old.site.book
      → takes_tree no_cell old client slot read done new
      → takes_tree device (on_disk old) client slot read done (on_disk new)
  deposited old client slot (Err fault) ready (is, unchanged) = (is, rw unchanged)
  deposited old client slot (Ok facts) ready (result, called_so, is) =
      (result, called old ready (calls.Deposits slot (check_of facts)) result called_so, is)

  turned : (gives : Option (List ℕ → Result TreeFacts TreeFault)) (old : Serving Waiting)
      → IsReady old.site.book → (request : Request)
      → comes_of no_cell addresses gives old request done new
      → comes_of device addresses gives (on_disk old) request done (on_disk new)
  turned gives old ready Waits comes = idled _ (one_more_idle old) ready comes
  turned gives old ready (Says m) (result, called_so, is) =
      (result, called old ready (calls.Arrives (Some m)) result called_so, is)
  turned gives old ready (Deposits client slot path) (read, given, comes) =
      (read, given, deposited old client slot read ready comes)
  turned gives old ready (Queries client slot) (asks, asked_so, is, unchanged) = (
    asks,
    rw (← asked_on old (answer_to old slot))
        (asks_on addresses old slot (asked old (answer_to old slot)) asks asked_so),
    is,
    rw unchanged,
  )
  turned gives old ready (Recovers slot) (result, called_so, refuses, is) =
      (result, called old ready (calls.Recovers slot) result called_so, refuses, is)
  turned gives old ready Noise (is, unchanged) = (is, rw unchanged)

pub turn_on : (addresses : List ℕ) (gives : Option (List ℕ → Result TreeFacts TreeFault))
    (old next : Serving Waiting) (took : Taken) (done : Done) → IsMembership (members old)
    → old.site.book.needs_opening ≡ false → AreRecords next.site.book.records
    → turn_of no_cell addresses gives old took done next
    → turn_of device addresses gives (on_disk old) took done (on_disk next)
turn_on addresses gives old next took done membership opened are comes =
    turned addresses next done are gives old (record { opened = opened; weights = membership.1 })
    (request_of (members old).federation took) comes
