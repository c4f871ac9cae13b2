-- A proposal whose datagrams all arrive, and no others of its slot.
use Rattle.std.specs.Prelude.{ℕ, ◌≡◌, ◌<◌, ◌⊎◌, ⊤, List, [], ◌∷◌, length, Some, None, IsSome}
use Rattle.fed_types.specs.Ballots.{BallotNumber, Below}
use Rattle.fed_types.specs.Lists.{Has}
use Rattle.fed_types.specs.Quorums.{QuorumSystem}
use Rattle.fed_types.specs.Slots.{SlotName}
use Rattle.records.specs.SlotStates.{promised_of, deposit_of, known_of}
use Rattle.proposer.specs.Proposals.{next_ballot}
use Rattle.schedule.specs.declared.fate.Fate.TheVariants.{Whole}
use Rattle.site.specs.Effects.{Send}
use Rattle.world_law.specs.Networks.{Network, Event, Up, Deposit, Propose, Recover, Ask, Query}
use Rattle.world_law.specs.Networks.{Deliver, Raw, Stop, Start, datagram_at, happens, run}
use Rattle.reach_law.specs.Running.{records_at, volatile_at, RoundsAreLeft}

-- ---- who proposes

-- Each of those that run is up; and one of them has a deposit for the slot, and knows no bag of it.
pub record IsReady (w : Network) (running : List ℕ) (slot : SlotName) (site : ℕ) : Type 0 where
  pub up : (n : ℕ) → Has n running → (w.sites n).mode ≡ Up (volatile_at w n)
  pub runs : Has site running
  pub unknown : known_of slot (records_at w site) ≡ None
  pub deposit : IsSome (deposit_of slot (records_at w site))

-- It has rounds left too.
pub record CanPropose (w : Network) (running : List ℕ) (slot : SlotName) (site : ℕ) : Type 0 where
  pub ready : IsReady w running slot site
  pub left : RoundsAreLeft w running slot site

-- Its next ballot is above all that those that run have promised.
pub record CanOutbid (w : Network) (running : List ℕ) (slot : SlotName) (site : ℕ) : Type 0 where
  pub ready : IsReady w running slot site
  pub ballot : BallotNumber
  pub next : next_ballot site slot (records_at w site) (volatile_at w site).heard ≡ Some ballot
  pub above : (n : ℕ) (b : BallotNumber) → Has n running
      → promised_of slot (records_at w n) ≡ Some b → Below b ballot

-- ---- other slots, and other members

-- An event of another slot, or of none. At a member that runs its fate is `Whole`; such a member
-- neither stops nor is opened.
abbrev pub IsElsewhere : (running : List ℕ) → SlotName → Network → Event → Type 0
IsElsewhere running slot w (Deposit n s checked fate) =
    (s ≡ slot → ⊥) × (Has n running → fate ≡ Whole)
IsElsewhere running slot w (Propose n s fate) = (s ≡ slot → ⊥) × (Has n running → fate ≡ Whole)
IsElsewhere running slot w (Recover n s fate) = (s ≡ slot → ⊥) × (Has n running → fate ≡ Whole)
IsElsewhere running slot w (Ask n m s fate) = (s ≡ slot → ⊥) × (Has n running → fate ≡ Whole)
IsElsewhere running slot w (Query n s) = ⊤
IsElsewhere running slot w (Deliver number fate) =
    (d : Send) × (datagram_at number w.sent ≡ Some d) × (d.message.slot ≡ slot → ⊥)
    × (Has d.to running → fate ≡ Whole)
IsElsewhere running slot w (Raw n) = ⊤
IsElsewhere running slot w (Stop n) = Has n running → ⊥
IsElsewhere running slot w (Start n) = Has n running → ⊥

-- A datagram of the slot whose number is above `before` reaches a member that runs.
pub record Comes (running : List ℕ) (slot : SlotName) (before : ℕ) (w : Network) (e : Event)
    : Type 0 where
  pub number : ℕ
  pub since : before < number
  pub is : e ≡ Deliver number Whole
  pub d : Send
  pub at : datagram_at number w.sent ≡ Some d
  pub of_slot : d.message.slot ≡ slot
  pub runs : Has d.to running

-- each event is one or the other, one after another
unfoldable pub AreUndisturbed :
    QuorumSystem → (running : List ℕ) → SlotName → (before : ℕ) → Network → List Event → Type 0
AreUndisturbed q running slot before w [] = ⊤
AreUndisturbed q running slot before w (e ∷ events) =
    (Comes running slot before w e ⊎ IsElsewhere running slot w e)
    × AreUndisturbed q running slot before (happens q w e).network events

-- ---- an undisturbed proposal

-- the site proposes
abbrev pub begun : QuorumSystem → Network → SlotName → (site : ℕ) → Network
begun q w slot site = (happens q w (Propose site slot Whole)).network

-- and then these events happen
abbrev pub in_the_end : QuorumSystem → Network → SlotName → (site : ℕ) → List Event → Network
in_the_end q w slot site events = run q (begun q w slot site) events

-- Nothing of the slot arrives but what is sent from the proposal on. Each such datagram to one of
-- those that run does arrive, at least once, in any order.
pub record AllArrive
    (q : QuorumSystem) (w : Network) (running : List ℕ) (slot : SlotName) (site : ℕ)
    (events : List Event)
    : Type 0 where
  pub no_others : AreUndisturbed q running slot (length w.sent) (begun q w slot site) events
  pub each_one : (number : ℕ) (d : Send) → length w.sent < number
      → datagram_at number (in_the_end q w slot site events).sent ≡ Some d
      → d.message.slot ≡ slot → Has d.to running → Has (Deliver number Whole) events

-- ---- what comes of it

-- the site knows a bag of the slot
abbrev pub Knows : Network → SlotName → (n : ℕ) → Type 0
Knows w slot n = IsSome (known_of slot (records_at w n))

-- all that run do
abbrev pub AllKnow : Network → (running : List ℕ) → SlotName → Type 0
AllKnow w running slot = (n : ℕ) → Has n running → Knows w slot n

-- it does, or its next ballot is above all that was promised
abbrev pub KnowsOrCanOutbid : Network → (running : List ℕ) → SlotName → (site : ℕ) → Type 0
KnowsOrCanOutbid w running slot site = Knows w slot site ⊎ CanOutbid w running slot site
