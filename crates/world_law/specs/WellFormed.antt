-- When a network is well-formed: each record, each message that was heard and each that was sent
-- is, so that its encoding is read as it. An event is well-formed if it brings in nothing else.
use Rattle.std.specs.Prelude.{ℕ, List, IfOk}
use Rattle.std.specs.List.{AllByRecursion}
use Rattle.fed_types.specs.Lists.{Has}
use Rattle.fed_types.specs.Quorums.{QuorumSystem}
use Rattle.fed_types.specs.Sites.{IsSiteNumber}
use Rattle.fed_types.specs.Values.{IsSlot, IsBag}
use Rattle.records.specs.Records.{AreRecords}
use Rattle.dgram.specs.declared.message.Message.{Message}
use Rattle.dgram.specs.Messages.{IsMessage}
use Rattle.site.specs.Effects.{Send}
use Rattle.world_law.specs.Networks.{Network, Event, Deposit, Propose, Recover, Ask, Query, Deliver}
use Rattle.world_law.specs.Networks.{Raw, Stop, Start, volatile_in, new_network, run}

-- the members are numbers of sites
abbrev pub MembersAreSites : QuorumSystem → Type 0
MembersAreSites q = (n : ℕ) → Has n q.members → IsSiteNumber n

-- each of them is well-formed
abbrev pub AreMessages : List Message → Type 0
AreMessages messages = AllByRecursion IsMessage messages

-- a well-formed message goes to the number of a site
abbrev pub IsSend : Send → Type 0
IsSend d = IsSiteNumber d.to × IsMessage d.message

-- all that was sent, each site's records, and what each site has heard
pub record IsWellFormed (w : Network) : Type 0 where
  pub sent : (d : Send) → Has d w.sent → IsSend d
  pub records : (n : ℕ) → AreRecords (w.sites n).records
  pub heard : (n : ℕ) → AreMessages (volatile_in (w.sites n).mode).heard

-- What an event brings in: a slot, a valid bag's identity, the site that is asked. The site at
-- which it happens is a member, or the event has no effect.
abbrev pub IsWellFormedEvent : Event → Type 0
IsWellFormedEvent (Deposit site slot checked fate) = IsSlot slot × IfOk checked IsBag
IsWellFormedEvent (Propose site slot fate) = IsSlot slot
IsWellFormedEvent (Recover site slot fate) = IsSlot slot
IsWellFormedEvent (Ask site member slot fate) = IsSiteNumber member × IsSlot slot
IsWellFormedEvent (Query site slot) = Unit {0}
IsWellFormedEvent (Deliver number fate) = Unit {0}
IsWellFormedEvent (Raw site) = Unit {0}
IsWellFormedEvent (Stop site) = Unit {0}
IsWellFormedEvent (Start site) = Unit {0}

abbrev pub AreWellFormedEvents : List Event → Type 0
AreWellFormedEvents events = AllByRecursion IsWellFormedEvent events

-- what is sent in a run of well-formed events is well-formed
abbrev pub SentMessagesAreWellFormed : Type 0
SentMessagesAreWellFormed =
    (q : QuorumSystem) (events : List Event) → MembersAreSites q → AreWellFormedEvents events
    → (d : Send) → Has d (run q new_network events).sent → IsSend d
