-- What the definitions take in. A reply to a client is a report, or a registration, as a printed
-- line is. A deposit is of a valid bag. And what is no message, or is one in the name of a site
-- that is no member, may come at any time, and is dropped.
use Rattle.std.specs.Prelude.{◌≡◌, ℕ, List, [], ◌∷◌, Ok}
use Rattle.fed_types.specs.declared.bag_id.BagId.{BagId}
use Rattle.fed_types.specs.Slots.{SlotName}
use Rattle.fed_types.specs.Values.{IsSlot, IsBag}
use Rattle.bag_tree.specs.Facts.{TreeFacts}
use Rattle.bag_check.specs.Check.{identity_of}
use Rattle.bag_check.specs.Valid.{IsValid}
use Rattle.dgram.specs.declared.answers.DepositAnswer.TheVariants as deposit
use Rattle.dgram.specs.declared.answers.QueryAnswer.TheVariants as query
use Rattle.dgram.specs.declared.body.Body.{Body}
use Rattle.dgram.specs.declared.body.Body.TheVariants.{DepositReply, QueryReply, Known}
use Rattle.dgram.specs.Encoding.{datagram_of}
use Rattle.lines.specs.declared.notice.Notice.TheVariants.{Dropped, Learned}
use Rattle.udp_site.specs.Requests.{Deposits, Noise, request_of}
use Rattle.udp_site.specs.Served.{Turned}
use Rattle.udp_site.specs.Traffic.{From}
use Rattle.serving_law.specs.Disks.{Disk, device}
use Rattle.serving_law.specs.Examples.{Request}
use Rattle.serving_law.specs.ExamplesAgreed.{three, a}
use Rattle.serving_law.specs.Federations.{Federation, Step, Happening, Turns, after}
use Rattle.serving_law.specs.Rules.{AreBytes, IsHistory}
use Rattle.serving_law.specs.Reports.{Reports, Registers, SaysKnown, OnRecord, IsDeposit}

-- ---- replies

-- Site 1 takes a turn of which one datagram is handed out, and nothing is printed.
abbrev pub hands_out : Step Disk → Happening Disk
hands_out step = Turns 1 step 1 0

-- it is this one, for some address
abbrev pub Replies : (federation : ℕ) → Step Disk → SlotName → Body → Type 0
Replies federation step slot body =
    (address : ℕ) × (rest : List (ℕ × List ℕ))
    × (step.turn.done.posts
    ≡ (address, datagram_of federation (record { slot = slot; body = body })) ∷ rest)

-- A client is told by it which bag is known: in reply to a query; or to a deposit, as another one.
-- Or it is told that its deposit is registered.
pub record RepliesCount (federation : ℕ) (step : Step Disk) (slot : SlotName) (bag : BagId)
    : Type 0 where
  pub queried : Replies federation step slot (QueryReply 1 (query.Known bag))
      → Reports federation (hands_out step) slot bag
      × SaysKnown federation (hands_out step) 1 slot bag
  pub refused : Replies federation step slot (DepositReply 1 (deposit.OtherKnown bag))
      → Reports federation (hands_out step) slot bag
      × SaysKnown federation (hands_out step) 1 slot bag
  pub registered : Replies federation step slot (DepositReply 1 (deposit.Registered bag))
      → Registers federation (hands_out step) 1 slot bag
  -- Or its line says so, of which a byte was written.
  pub printed : step.turn.done.notices ≡ Learned 1 slot bag ∷ []
      → Reports federation (Turns 1 step 0 1) slot bag
      × SaysKnown federation (Turns 1 step 0 1) 1 slot bag

abbrev pub RepliesAreReports : Type 0
RepliesAreReports =
    (federation : ℕ) (step : Step Disk) (slot : SlotName) (bag : BagId) → IsSlot slot → IsBag bag
    → RepliesCount federation step slot bag

-- ---- deposits

-- What a turn deposits is a valid bag of this identity, as its folder is read then, and it is on
-- record afterwards.
abbrev pub DepositsAreValid : Type 0
DepositsAreValid =
    (federation : ℕ) (f : Federation Disk) (n : ℕ) (step : Step Disk) (handed written : ℕ)
    (address : ℕ) (path : List ℕ) (facts : TreeFacts) (slot : SlotName) (bag : BagId)
    → request_of federation step.turn.took ≡ Deposits address slot path
    → step.folders path ≡ Ok facts
    → IsDeposit federation f (Turns n step handed written) slot bag
    → IsValid facts × (bag ≡ identity_of facts)
    × OnRecord (after f (Turns n step handed written)) n slot bag

-- ---- what is dropped

-- these bytes came to site 1, which says that it has dropped them, and hands out nothing
abbrev pub drops : List ℕ → Turned
drops bytes = record {
  took = From 0 bytes;
  done = record { posts = []; notices = Dropped 1 ∷ [] };
}

-- Of three, site 1 begins to serve, and nobody has handed out anything. These bytes come; and then
-- a message in the name of site 4, which is no member.
pub record DropsBoth (bytes : List ℕ) (bag : BagId) : Type 0 where
  pub start : Happening Disk
  pub noise : Step Disk
  pub stranger : Step Disk
  pub happens : IsHistory device three
      (start ∷ Turns 1 noise 0 0 ∷ Turns 1 stranger 0 0 ∷ [])
  pub noise_is : noise.turn ≡ drops bytes
  pub stranger_is : stranger.turn
      ≡ drops (datagram_of three.federation (record { slot = a; body = Known 4 bag }))
  pub unchanged : stranger.next ≡ noise.next

-- they are no message of the federation
abbrev pub NoiseIsDropped : Type 0
NoiseIsDropped =
    (bytes : List ℕ) (bag : BagId) → AreBytes bytes
    → request_of three.federation (From 0 bytes) ≡ Noise → Request three.federation a bag
    → DropsBoth bytes bag
