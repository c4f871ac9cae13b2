-- A turn of a site that serves, of anything that may come.
use Rattle.std.proofs.Common.{ℕ, ◌≡◌, ◌+◌, ◌%◌, refl, subst, Bool, true, false, List, [], Option}
use Rattle.std.proofs.Common.{None, Some}
use Rattle.std.specs.Prelude.{Result, Ok, Err, ◌==◌}
use Rattle.fed_types.specs.declared.bag_id.BagId.{BagId}
use Rattle.fed_types.specs.Ballots.{BallotNumber}
use Rattle.fed_types.specs.Lists.{Has}
use Rattle.fed_types.specs.Quorums.{QuorumSystem}
use Rattle.fed_types.specs.Sites.{Membership, members_of}
use Rattle.fed_types.specs.Slots.{SlotName}
use Rattle.fed_types.specs.Values.{IsSlot}
use Rattle.fed_types.specs.Laws.Lists.{has_none, has_one, is_in_decides}
use Rattle.cell_device.specs.Devices.{Device}
use Rattle.bag_tree.specs.declared.fault.TreeFault.{TreeFault}
use Rattle.bag_tree.specs.Facts.{TreeFacts}
use Rattle.bag_tree.specs.Fault.{IsOrMemory}
use Rattle.records.specs.Records.{IsRecord}
use Rattle.records.specs.SlotStates.{deposit_of, known_of}
use Rattle.records.proofs.Bounds.{deposit_among}
use Rattle.dgram.specs.declared.message.Message.{Message}
use Rattle.dgram.specs.Encoding.{body_from}
use Rattle.dgram.specs.Messages.{IsMessage}
use Rattle.proposer.specs.VolatileStates.{VolatileState}
use Rattle.site.specs.Arrivals.{is_member, on_arrival}
use Rattle.site.specs.declared.answer.Answer.{Answer}
use Rattle.site.specs.declared.answer.Line.TheVariants as site_lines
use Rattle.site.specs.declared.fault.SiteFault.{SiteFault}
use Rattle.site.specs.declared.fault.SiteFault.TheVariants as faults
use Rattle.site.specs.Calls as calls
use Rattle.site.specs.Calls.{Input, Proposes, Arrives, effect_of, on_propose, begins_ballot_if}
use Rattle.lines.specs.declared.notice.Notice.{Notice}
use Rattle.world_law.specs.Laws.{WasSent}
use Rattle.world_law.specs.Networks.{volatile_in}
use Rattle.world_law.proofs.Arrivals.{arrival_deed, says_deed}
use Rattle.world_law.proofs.Calls.{propose_deed, recover_deed}
use Rattle.world_law.proofs.Deeds.{Deed, some_same}
use Rattle.world_law.proofs.Step.{reports_plain}
use Rattle.world_law.proofs.WellFormedCalls.{IsWellFormedInput, effect_is, refuses_is}
use Rattle.world_law.proofs.WellFormedEffects.{IsWellFormedEffect}
use Rattle.world_law.proofs.WellFormedWords.{all_has}
use Rattle.udp_site.specs.Traffic.{Post, Taken}
use Rattle.udp_site.specs.Requests.{Request, Waits, Says, Deposits, Queries, Recovers, Noise}
use Rattle.udp_site.specs.Requests.{request_of}
use Rattle.udp_site.specs.Turns.{Serving, Done, notices_of, proposal_notices, recovery_notices}
use Rattle.udp_site.specs.Turns.{hears, deposits, recovering, proposes, idles_if, comes_of, slot_of}
use Rattle.udp_site.specs.Rounds.{next_waiting}
use Rattle.serving_law.specs.Rules.{MayCome, IsOfMember}
use Rattle.serving_law.proofs.Requests.{IsAsked, deposit_is_slot, query_is_slot, says_was_sent}
use Rattle.serving_law.proofs.Requests.{recover_is_slot, says_is_message}
use Rattle.serving_law.proofs.Scene.{Scene}
use Rattle.serving_law.proofs.Networks.{quorums, Means, May, IsNotice}
use Rattle.serving_law.proofs.Deposits.{tree_ends}
use Rattle.serving_law.proofs.Questions.{query_ends}
use Rattle.serving_law.proofs.Turns as turning

-- what a proposal says is what its call says, or nothing
proposal_among : (n : ℕ) (input : Input) (result : Result Answer SiteFault) (notice : Notice)
    → Has notice (proposal_notices n input result) → Has notice (notices_of n input result)
proposal_among n input (Err faults.RoundsSpent) notice h = absurd (has_none h)
proposal_among n input _ notice h = h

-- so does what a recovery says
recovery_among : (n : ℕ) (input : Input) (result : Result Answer SiteFault) (notice : Notice)
    → Has notice (recovery_notices n input result) → Has notice (notices_of n input result)
recovery_among n input (Err faults.AlreadyKnown) notice h = absurd (has_none h)
recovery_among n input (Err faults.NothingToRecover) notice h = absurd (has_none h)
recovery_among n input (Err faults.RoundsSpent) notice h = absurd (has_none h)
recovery_among n input _ notice h = h

module _ {C : Type 0} {device : C → Device} {members : Membership} (s : Scene device members) where
  open s use {w, inv, formed, n, member, cell, tables, recovers, is_membership, only_now}

  abbrev q : QuorumSystem
  q = quorums device members

  abbrev volatile : VolatileState
  volatile = volatile_in (w.sites n).mode

  abbrev Ends : Done → Serving C → May → Type 0
  Ends = turning.Ends s

  abbrev at : (idle tried : ℕ) → Serving C
  at = turning.old s

  -- ---- nothing to do

  idle_ends : (idle tried : ℕ) (D : May) (done : Done) (new : Serving C)
      → done ≡ record { posts = []; notices = [] } → new ≡ at idle tried → Ends done new D
  idle_ends idle tried D done new done_is same =
      rw done_is (turning.quiet_ends s idle tried new same _ D
      (λ port bytes h. absurd (has_none h)) (λ notice h. absurd (has_none h)))

  effect_formed : (input : Input) → IsWellFormedInput input
      → IsWellFormedEffect (effect_of q n (w.sites n).records volatile input)
  effect_formed input is =
      effect_is q (turning.sites s) n (turning.is_site s) (w.sites n).records (formed.records n)
      volatile (formed.heard n) input is

  -- ---- a site's message

  -- one of no member is dropped, and changes nothing
  arrives_deed : (message : Message)
      → (IsOfMember members message → WasSent w message.slot message.body)
      → Deed q w n (Arrives (Some message))
      (effect_of q n (w.sites n).records volatile (Arrives (Some message)))
  unfolding on_arrival
  arrives_deed message sent = go (is_member q (body_from message.body)) refl
    where
      of_member : (from : Option ℕ) → is_member q from ≡ true
          → (k : ℕ) × (from ≡ Some k) × Has k (members_of members)
      of_member None e = absurd (cc e)
      of_member (Some k) e = (k, refl, (is_in_decides (members_of members) k).0 e)

      go : (t : Bool) → is_member q (body_from message.body) ≡ t
          → Deed q w n (Arrives (Some message))
          (effect_of q n (w.sites n).records volatile (Arrives (Some message)))
      go true e =
          arrival_deed q (turning.laws s) w inv n (Some message)
          (λ m same. rw (← some_same same) (sent (of_member (body_from message.body) e)))
      go false e =
          rw e (says_deed q (turning.laws s) w inv n (Arrives (Some message))
          (Ok (Some site_lines.Dropped)) (reports_plain _ refl))

  hears_ends : (idle tried : ℕ) (addresses : List ℕ) (message : Message)
      → (IsOfMember members message → WasSent w message.slot message.body) → IsMessage message
      → (D : May) (done : Done) (new : Serving C)
      → hears device addresses (at idle tried) message done new → Ends done new D
  hears_ends idle tried addresses message sent is D done new (result, called, done_is) =
      rw done_is (turning.speaks_ends s idle tried (Arrives (Some message))
      (arrives_deed message sent) (effect_formed (Arrives (Some message)) is)
      D (λ slot bag none. absurd none) result new called addresses
      (notices_of n (Arrives (Some message)) result) (λ notice h. h) (λ e. rw e refl))

  -- ---- a proposal

  propose_formed : (slot : SlotName)
      → IsWellFormedEffect (effect_of q n (w.sites n).records volatile (Proposes slot))
  unfolding on_propose
  propose_formed slot = go (deposit_of slot (w.sites n).records) refl
    where
      refused : (known : Option BagId) (next : Option BallotNumber)
          → IsWellFormedEffect (begins_ballot_if q slot known None next volatile)
      refused (Some bag) next = refuses_is volatile (formed.heard n) _
      refused None next = refuses_is volatile (formed.heard n) _

      go : (own : Option BagId) → deposit_of slot (w.sites n).records ≡ own
          → IsWellFormedEffect (effect_of q n (w.sites n).records volatile (Proposes slot))
      go None e = rw e (refused (known_of slot (w.sites n).records) _)
      go (Some bag) e =
          effect_formed (Proposes slot) (all_has IsRecord (w.sites n).records (formed.records n)
          (deposit_among slot (w.sites n).records bag e)).0

  proposes_ends : (idle tried : ℕ) (addresses : List ℕ) (D : May) (done : Done) (new : Serving C)
      (place : Option ℕ) (slot : Option SlotName)
      → proposes device addresses (at idle tried) place slot done new → Ends done new D
  proposes_ends idle tried addresses D done new (Some place) (Some slot)
      (result, called, refuses, done_is) =
      rw done_is (turning.speaks_ends s idle (place + 1) (Proposes slot)
      (propose_deed q (turning.laws s) w inv n slot)
      (propose_formed slot) D (λ s bag none. absurd none) result new called addresses
      (proposal_notices n (Proposes slot) result) (proposal_among n (Proposes slot) result)
      (λ e. rw e refl))
  proposes_ends idle tried addresses D done new _ _ t = idle_ends idle tried D done new t.0 t.1

  if_ends : (idle tried : ℕ) (addresses : List ℕ) (D : May) (done : Done) (new : Serving C)
      (t : Bool) → idles_if t device addresses (at idle tried) done new → Ends done new D
  if_ends idle tried addresses D done new true t =
      proposes_ends idle tried addresses D done new (next_waiting (w.sites n).records tried)
      (slot_of (w.sites n).records (next_waiting (w.sites n).records tried)) t
  if_ends idle tried addresses D done new false (done_is, same) =
      idle_ends idle tried D done new done_is same

  -- ---- a recovery

  recovers_ends : (idle tried : ℕ) (addresses : List ℕ) (slot : SlotName) → IsSlot slot → (D : May)
      (done : Done) (new : Serving C) → recovering device addresses (at idle tried) slot done new
      → Ends done new D
  recovers_ends idle tried addresses slot is_slot D done new (result, called, refuses, done_is) =
      rw done_is (turning.speaks_ends s idle tried (calls.Recovers slot)
      (recover_deed q (turning.laws s) w inv n slot) (effect_formed (calls.Recovers slot) is_slot)
      D (λ s bag none. absurd none) result new called addresses
      (recovery_notices n (calls.Recovers slot) result)
      (recovery_among n (calls.Recovers slot) result) (λ e. rw e refl))

  -- ---- any turn

  module _ (handed : List Post)
      (means : (port : ℕ) (bytes : List ℕ) → Has (port, bytes) handed
      → Means device members w bytes)
      (addresses : List ℕ) (folders : List ℕ → Result TreeFacts TreeFault) (took : Taken)
      (may : MayCome members handed took) (idle tried : ℕ) (done : Done) (new : Serving C) where
    abbrev D : May
    D = IsAsked members.federation folders took

    deposit_ends : (port : ℕ) (slot : SlotName) (path : List ℕ)
        → request_of members.federation took ≡ Deposits port slot path
        → deposits device (Some folders) (at idle tried) port slot path done new → Ends done new D
    deposit_ends port slot path e (read, gives, tree) =
        tree_ends s slot (deposit_is_slot members handed took may port slot path e) idle tried port
        read D (λ facts bag is checked. record {
          address = port;
          path = path;
          asked = e;
          facts = facts;
          read = given read facts is gives;
          checked = checked;
        })
        done new tree
      where
        given : (read : Result TreeFacts TreeFault) (facts : TreeFacts) → read ≡ Ok facts
            → IsOrMemory read (folders path) → folders path ≡ Ok facts
        given read facts is g = rw is at g

    by_request : (r : Request) → request_of members.federation took ≡ r
        → comes_of device addresses (Some folders) (at idle tried) r done new → Ends done new D
    by_request Waits e t = if_ends (idle + 1) tried addresses D done new ((idle + 1) % n == 0) t
    by_request (Says message) e t =
        hears_ends idle tried addresses message
        (says_was_sent members handed device w formed means took may message e)
        (says_is_message members handed took may message e) D done new t
    by_request (Deposits port slot path) e t = deposit_ends port slot path e t
    by_request (Queries port slot) e t =
        query_ends s idle tried slot (query_is_slot members handed took may port slot e) addresses
        port D done new t
    by_request (Recovers slot) e t =
        recovers_ends idle tried addresses slot (recover_is_slot members handed took may slot e) D
        done new t
    by_request Noise e (done_is, same) =
        rw done_is (turning.quiet_ends s idle tried new same _ D
        (λ port bytes h. absurd (has_none h))
        (λ notice h. subst (IsNotice device members w w) (has_one h) (turning.dropped_is s w)))

    pub turn_ends : comes_of device addresses (Some folders) (at idle tried)
        (request_of members.federation took) done new → Ends done new D
    turn_ends t = by_request (request_of members.federation took) refl t
