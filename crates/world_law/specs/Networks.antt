-- The sites of a federation, all datagrams that were ever sent, and what each event brings about: a
-- call of a site, a datagram's arrival, a stop, a start.
use Rattle.std.specs.Prelude.{ℕ, zero, suc, ◌==◌, List, [], ◌∷◌, ◌++◌, length, take, slice_get}
use Rattle.std.specs.Prelude.{Option, Some, None, Result, if◌then◌else◌}
use Rattle.std.specs.Option.{option_to_list}
use Rattle.fed_types.specs.declared.bag_id.BagId.{BagId}
use Rattle.fed_types.specs.Lists.{is_in}
use Rattle.fed_types.specs.Quorums.{QuorumSystem}
use Rattle.fed_types.specs.Slots.{SlotName}
use Rattle.bag_check.specs.declared.fault.BagFault.{BagFault}
use Rattle.records.specs.declared.record.Record.{Record}
use Rattle.records.specs.Texts.{kept_record}
use Rattle.proposer.specs.VolatileStates.{VolatileState, new_volatile}
use Rattle.site.specs.declared.fault.SiteFault.TheVariants as faults
use Rattle.site.specs.Calls.{Input, Deposits, Proposes, Recovers, Asks, Arrives}
use Rattle.site.specs.Calls.{effect_of, reply_of}
use Rattle.site.specs.Effects.{Effect, Send, refuses}
use Rattle.lines.specs.declared.notice.Notice.{Notice}
use Rattle.lines.specs.declared.notice.Notice.TheVariants.{Replied, Refused, GoesDown, ComesUp}
use Rattle.lines.specs.Notices.{notice_of}
use Rattle.schedule.specs.declared.fate.Fate.{Fate}
use Rattle.schedule.specs.declared.fate.Fate.TheVariants.{Whole, StopsIn, StopsAfter, FailsIn}

-- ---- sites and datagrams

-- A site is up, with its volatile state; or it is down; or its device has failed, and it needs
-- opening. A site that isn't up has lost its volatile state.
pub data Mode : Type 0 where
  Up : VolatileState → Mode
  Down : Mode
  NeedsOpening : Mode

-- what a site in this mode has heard, and which ballots are current
abbrev pub volatile_in : Mode → VolatileState
volatile_in (Up volatile) = volatile
volatile_in Down = new_volatile
volatile_in NeedsOpening = new_volatile

-- what is on its record, and its mode
pub record SiteState : Type 0 where
  pub records : List Record
  pub mode : Mode

-- Each site by its number: numbers that are no member's are there too, and `run` leaves them new.
-- And all datagrams, in the order in which they were sent, each as the message to which its bytes
-- decode (`message_of_its_datagram` of `dgram`); its sender is the site that the message names.
-- `run` removes none: one may arrive once, often or never, in any order.
pub record Network : Type 0 where
  pub sites : ℕ → SiteState
  pub sent : List Send

-- a site that is up and has no records
unfoldable pub new_site : SiteState
new_site = record { records = []; mode = Up new_volatile }

-- every site is new, and nothing was sent
unfoldable pub new_network : Network
new_network = record { sites = λ site. new_site; sent = [] }

-- ---- events

-- A site is called to take a tree as its deposit, for which the check gave this answer; to propose;
-- to recover; to ask a member; to reply to a query. The datagram of this number, among all that
-- were ever sent, counted from 1, arrives at its addressee; bytes arrive that are no message. A
-- site stops between calls; it is opened again.
pub data Event : Type 0 where
  Deposit : (site : ℕ) → SlotName → Result BagId BagFault → Fate → Event
  Propose : (site : ℕ) → SlotName → Fate → Event
  Recover : (site : ℕ) → SlotName → Fate → Event
  Ask : (site : ℕ) → (member : ℕ) → SlotName → Fate → Event
  Query : (site : ℕ) → SlotName → Event
  Deliver : (number : ℕ) → Fate → Event
  Raw : (site : ℕ) → Event
  Stop : (site : ℕ) → Event
  Start : (site : ℕ) → Event

-- the outcome of an event at a site: what the site is then, what it sent, and what is reported
pub record SiteOutcome : Type 0 where
  pub site : SiteState
  pub sends : List Send
  pub notice : Option Notice

-- what an event brings about in the network
pub record Happening : Type 0 where
  pub network : Network
  pub sends : List Send
  pub notice : Option Notice

-- ---- a call, under a fate

-- the call is done, and the site goes on in this mode
abbrev pub goes_on : (site : ℕ) → SiteState → (after : Mode) → Input → Effect → SiteOutcome
goes_on site s after input e = record {
  site = record { records = s.records ++ option_to_list e.commits; mode = after };
  sends = e.sends;
  notice = notice_of site input e.says;
}

-- the site is down, with this record more, if there is one, after it has sent these messages
abbrev pub goes_down : (site : ℕ) → SiteState → Option Record → List Send → SiteOutcome
goes_down site s kept sends = record {
  site = record { records = s.records ++ option_to_list kept; mode = Down };
  sends = sends;
  notice = Some (GoesDown site);
}

-- the site's device has failed, and keeps this record more, if there is one; nothing was sent
abbrev pub fails : (site : ℕ) → SiteState → Option Record → SiteOutcome
fails site s kept = record {
  site = record { records = s.records ++ option_to_list kept; mode = NeedsOpening };
  sends = [];
  notice = Some (Refused site faults.Device);
}

-- The outcome of a call under a fate. `commits` is the record that it commits, if any, and `after`
-- the mode of a site that goes on. A stop or a failure in a device call leaves the record if at
-- least as many bytes are kept as it has, and nothing is sent. If there is no record there is no
-- device call: a stop there is one before any datagram is sent, and a failure changes nothing.
unfoldable pub outcome :
    (site : ℕ) → SiteState → (after : Mode) → Input → Effect → (commits : Option Record) → Fate
    → SiteOutcome
outcome site s after input e commits Whole = goes_on site s after input e
outcome site s after input e None (StopsIn device k) = goes_down site s None []
outcome site s after input e (Some r) (StopsIn device k) = goes_down site s (kept_record k r) []
outcome site s after input e commits (StopsAfter j) = goes_down site s commits (take j e.sends)
outcome site s after input e None (FailsIn device k) = goes_on site s after input e
outcome site s after input e (Some r) (FailsIn device k) = fails site s (kept_record k r)

-- the outcome of an effect at a site that is up
abbrev pub under_fate : (site : ℕ) → SiteState → Input → Effect → Fate → SiteOutcome
under_fate site s input e fate = outcome site s (Up e.volatile) input e e.commits fate

-- a site that needs opening refuses, and doesn't hear what reaches it
abbrev pub refuses_all : (site : ℕ) → SiteState → Input → Fate → SiteOutcome
refuses_all site s input fate =
    outcome site s NeedsOpening input (refuses faults.NeedsOpen new_volatile) None fate

-- The outcome of an input that reaches a site, under a fate: a site that is up does what the effect
-- says; one that needs opening refuses; one that is down does nothing.
abbrev pub step : QuorumSystem → (site : ℕ) → SiteState → Mode → Input → Fate → SiteOutcome
step q site s (Up volatile) input fate =
    under_fate site s input (effect_of q site s.records volatile input) fate
step q site s NeedsOpening input fate = refuses_all site s input fate
step q site s Down input fate = record { site = s; sends = []; notice = None }

-- ---- what happens

-- nothing does
abbrev pub nothing : Network → Happening
nothing w = record { network = w; sends = []; notice = None }

-- an outcome at a site; the other sites are as they were
abbrev pub happening : Network → (site : ℕ) → SiteOutcome → Happening
happening w site o = record {
  network = record {
    sites = λ n. if n == site then o.site else w.sites n;
    sent = w.sent ++ o.sends;
  };
  sends = o.sends;
  notice = o.notice;
}

-- only members do anything
abbrev pub if_member : QuorumSystem → Network → (site : ℕ) → Happening → Happening
if_member q w site h = if is_in q.members site then h else nothing w

-- an input reaches a site; if the site is down, the network is left as it is, and not made anew
abbrev pub reaches : QuorumSystem → Network → (site : ℕ) → Mode → Input → Fate → Happening
reaches q w site Down input fate = nothing w
reaches q w site mode input fate = happening w site (step q site (w.sites site) mode input fate)

abbrev pub takes : QuorumSystem → Network → (site : ℕ) → Input → Fate → Happening
takes q w site input fate =
    if_member q w site (reaches q w site (w.sites site).mode input fate)

-- a site says this, and nothing else happens
abbrev pub says : Network → Notice → Happening
says w notice = record { network = w; sends = []; notice = Some notice }

-- a query: its only outcome is a reply
abbrev pub replies : Network → (site : ℕ) → Mode → SlotName → Happening
replies w site (Up volatile) slot =
    says w (Replied site slot (reply_of slot (w.sites site).records))
replies w site NeedsOpening slot = says w (Refused site faults.NeedsOpen)
replies w site Down slot = nothing w

-- the datagram of this number, counted from 1
abbrev pub datagram_at : (number : ℕ) → List Send → Option Send
datagram_at zero sent = None
datagram_at (suc before) sent = slice_get sent before

-- a datagram, if there is one, arrives at its addressee
abbrev pub arrives : QuorumSystem → Network → Option Send → Fate → Happening
arrives q w None fate = nothing w
arrives q w (Some d) fate = takes q w d.to (Arrives (Some d.message)) fate

-- a site stops between calls
abbrev pub stops : Network → (site : ℕ) → Mode → Happening
stops w site Down = nothing w
stops w site mode = happening w site (goes_down site (w.sites site) None [])

-- it is up, with the records that it has
abbrev pub opened : (site : ℕ) → SiteState → SiteOutcome
opened site s = record {
  site = record { records = s.records; mode = Up new_volatile };
  sends = [];
  notice = Some (ComesUp site (length s.records));
}

-- a site that isn't up is opened
abbrev pub starts : Network → (site : ℕ) → Mode → Happening
starts w site (Up volatile) = nothing w
starts w site mode = happening w site (opened site (w.sites site))

-- what an event brings about
unfoldable pub happens : QuorumSystem → Network → Event → Happening
happens q w (Deposit site slot checked fate) = takes q w site (Deposits slot checked) fate
happens q w (Propose site slot fate) = takes q w site (Proposes slot) fate
happens q w (Recover site slot fate) = takes q w site (Recovers slot) fate
happens q w (Ask site member slot fate) = takes q w site (Asks slot member) fate
happens q w (Query site slot) = if_member q w site (replies w site (w.sites site).mode slot)
happens q w (Deliver number fate) = arrives q w (datagram_at number w.sent) fate
happens q w (Raw site) = takes q w site (Arrives None) Whole
happens q w (Stop site) = if_member q w site (stops w site (w.sites site).mode)
happens q w (Start site) = if_member q w site (starts w site (w.sites site).mode)

-- the network after these events
unfoldable pub run : QuorumSystem → Network → List Event → Network
run q w [] = w
run q w (e ∷ events) = run q (happens q w e).network events
