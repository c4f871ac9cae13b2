-- Two histories, over a disk of which all is known. A site is killed while its deposit is being
-- recorded: what it would have replied was never handed out, whether its record was lost or kept;
-- had it been, `RegisteredStays` were false. And a turn that only the premise on the network keeps
-- out: a site is told what nobody has said, and reports a bag that nobody has deposited.
use Rattle.std.specs.Prelude.{◌≡◌, ◌≤◌, ℕ, false, List, [], ◌∷◌, ◌++◌, None, Some, Ok}
use Rattle.fed_types.specs.declared.bag_id.BagId.{BagId}
use Rattle.fed_types.specs.Lists.{Has}
use Rattle.fed_types.specs.Sites.{Membership, count_of}
use Rattle.fed_types.specs.Slots.{SlotName}
use Rattle.fed_types.specs.Values.{IsMembership, IsSlot, IsBag}
use Rattle.bag_tree.specs.Facts.{TreeFacts}
use Rattle.bag_check.specs.Check.{check_of}
use Rattle.records.specs.declared.entry.Entry.TheVariants as entry
use Rattle.records.specs.declared.record.Record.{Record}
use Rattle.dgram.specs.declared.answers.DepositAnswer.TheVariants as deposit
use Rattle.dgram.specs.declared.body.Body.TheVariants.{DepositReply, Known}
use Rattle.dgram.specs.Encoding.{datagram_of}
use Rattle.udp_site.specs.Traffic.{Post, From}
use Rattle.lines.specs.declared.notice.Notice.TheVariants.{Learned}
use Rattle.udp_site.specs.Requests.{Deposits, request_of}
use Rattle.udp_site.specs.Turns.{Serving, turn_of}
use Rattle.serving_law.specs.Disks.{Disk, device}
use Rattle.serving_law.specs.Federations.{Serves, Down, Step, Happening, Dies, new_federation}
use Rattle.serving_law.specs.Federations.{after_all}
use Rattle.serving_law.specs.Rules.{AreBytes, IsHistory}
use Rattle.serving_law.specs.Reports.{step_of}

-- ---- a deposit

abbrev pub recorded : SlotName → BagId → Record
recorded slot bag = record { slot = slot; body = entry.Deposit bag }

-- a request to deposit a folder, which is this valid bag
pub record Request (federation : ℕ) (slot : SlotName) (bag : BagId) : Type 0 where
  pub address : ℕ
  pub path : List ℕ
  pub bytes : List ℕ
  pub are_bytes : AreBytes bytes
  pub asked : request_of federation (From address bytes) ≡ Deposits address slot path
  pub facts : TreeFacts
  pub checked : check_of facts ≡ Ok bag

-- the reply of site 1
abbrev pub reply_to : (federation : ℕ) → (address : ℕ) → SlotName → BagId → Post
reply_to federation address slot bag = (
  address,
  datagram_of federation
      (record { slot = slot; body = DepositReply 1 (deposit.Registered bag) }),
)

-- It is killed in the call, of which it would have replied that the bag is registered; its cell
-- recovers to these records, and nothing was handed out.
pub record WasKilled (members : Membership) (slot : SlotName) (bag : BagId) (address : ℕ)
    (records : List Record) : Type 0 where
  pub before : List (Happening Disk)
  pub step : Step Disk
  pub happens : IsHistory device members (before ++ Dies 1 step records ∷ [])
  pub would_reply : Has (reply_to members.federation address slot bag) step.turn.done.posts
  pub down : (after_all new_federation (before ++ Dies 1 step records ∷ [])).members 1
      ≡ Down records
  pub nothing : (after_all new_federation (before ++ Dies 1 step records ∷ [])).handed ≡ []

abbrev pub KilledInADeposit : Type 0
KilledInADeposit =
    (members : Membership) (slot : SlotName) (bag : BagId)
    (request : Request members.federation slot bag) → IsMembership members
    → WasKilled members slot bag request.address []
    × WasKilled members slot bag request.address (recorded slot bag ∷ [])

-- ---- a forged message

-- By the rules of turns site 1 takes the message that site 2 knows the bag, goes on, and says it
-- too; and nobody has taken a turn or handed out anything before.
pub record IsFooled (members : Membership) (slot : SlotName) (bag : BagId) : Type 0 where
  pub before : List (Happening Disk)
  pub happens : IsHistory device members before
  pub no_turn : (h : Happening Disk) → Has h before → step_of h ≡ None
  pub nothing : (after_all new_federation before).handed ≡ []
  pub old : Serving Disk
  pub serves : (after_all new_federation before).members 1 ≡ Serves old
  pub step : Step Disk
  pub forged : step.turn.took
      ≡ From 0 (datagram_of members.federation (record { slot = slot; body = Known 2 bag }))
  pub comes : turn_of device step.addresses (Some step.folders) old step.turn.took step.turn.done
      step.next
  pub goes_on : step.next.site.book.needs_opening ≡ false
  pub says : step.turn.done.notices ≡ Learned 1 slot bag ∷ []

abbrev pub FooledByAForgedKnown : Type 0
FooledByAForgedKnown =
    (members : Membership) (slot : SlotName) (bag : BagId)
    → IsMembership members → 2 ≤ count_of members → IsSlot slot → IsBag bag
    → IsFooled members slot bag
