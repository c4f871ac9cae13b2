-- Facts about a network, and the laws of agreement (Lamport, Paxos Made Simple, section 2.2). Each
-- law is the contract of a function of src/law.rt.
use Rattle.std.specs.Prelude.{ℕ, ◌≡◌, ◌⊎◌, List, [], ◌∷◌, ◌++◌, Option, Some, None}
use Rattle.std.specs.Option.{option_to_list, option_map}
use Rattle.fed_types.specs.declared.bag_id.BagId.{BagId}
use Rattle.fed_types.specs.declared.vote.Vote.{Vote}
use Rattle.fed_types.specs.Ballots.{BallotNumber, Below}
use Rattle.fed_types.specs.Lists.{Has}
use Rattle.fed_types.specs.Quorums.{QuorumSystem, IsQuorum}
use Rattle.fed_types.specs.Slots.{SlotName}
use Rattle.records.specs.declared.entry.Entry.{Entry}
use Rattle.records.specs.declared.entry.Entry.TheVariants as entry
use Rattle.records.specs.Bounds.{HasEntry}
use Rattle.dgram.specs.declared.body.Body.{Body}
use Rattle.dgram.specs.declared.body.Body.TheVariants.{Promise, Accept, Accepted, Known}
use Rattle.dgram.specs.Encoding.{body_from}
use Rattle.dgram.specs.Heard.{PromiseFrom, promisers}
use Rattle.site.specs.declared.answer.Reply.TheVariants as replies
use Rattle.site.specs.Effects.{Send}
pub use Rattle.site.specs.Reported.{Report}
use Rattle.world_law.specs.Networks.{Network, Event, Deposit, Propose, Recover, Ask, Query, Deliver}
use Rattle.lines.specs.declared.notice.Notice.{Notice}
use Rattle.lines.specs.declared.notice.Notice.TheVariants.{Learned, Replied}
use Rattle.world_law.specs.Networks.{Raw, Stop, Start, datagram_at, happens}

-- ---- what is on record, and what was sent

-- site n has this entry of the slot on record
abbrev pub OnRecord : Network → (n : ℕ) → SlotName → Entry → Type 0
OnRecord w n slot entry = HasEntry slot (w.sites n).records entry

-- a message that says this of the slot was sent, to some site
pub record WasSent (w : Network) (slot : SlotName) (body : Body) : Type 0 where
  pub to : ℕ
  pub is_sent : Has (record { to = to; message = record { slot = slot; body = body } }) w.sent

-- ---- what is chosen

-- each of these voters, which are a quorum, has the vote on record
pub record IsChosenBy (q : QuorumSystem) (w : Network) (slot : SlotName) (vote : Vote) : Type 0
  where
    pub voters : List ℕ
    pub quorum : IsQuorum q voters
    pub voted : (n : ℕ) → Has n voters → OnRecord w n slot (entry.Vote vote)

-- The bag is chosen for the slot: a quorum has voted for it, in one ballot.
pub record IsChosen (q : QuorumSystem) (w : Network) (slot : SlotName) (bag : BagId) : Type 0 where
  pub ballot : BallotNumber
  pub chosen : IsChosenBy q w slot (record { ballot = ballot; bag = bag })

-- ---- what a promise names

-- site n has no vote below the ballot
abbrev pub HasNoneBelow : Network → (n : ℕ) → SlotName → BallotNumber → Type 0
HasNoneBelow w n slot b =
    (vote : Vote) → OnRecord w n slot (entry.Vote vote) → ¬ Below vote.ballot b

-- this is site n's highest vote below the ballot
pub record IsHighestBelow
    (w : Network) (n : ℕ) (slot : SlotName) (b : BallotNumber) (highest : Vote)
    : Type 0 where
  pub voted : OnRecord w n slot (entry.Vote highest)
  pub lower : Below highest.ballot b
  pub none_higher : (vote : Vote) → OnRecord w n slot (entry.Vote vote) → Below vote.ballot b
      → ¬ Below highest.ballot vote.ballot

-- site n's highest vote below the ballot, or none where it has none
abbrev pub IsPrior : Network → (n : ℕ) → SlotName → BallotNumber → Option Vote → Type 0
IsPrior w n slot b None = HasNoneBelow w n slot b
IsPrior w n slot b (Some vote) = IsHighestBelow w n slot b vote

-- ---- what backs a proposal

-- P2c: the bag of the highest prior vote; if none was named, a deposit of the proposer
abbrev pub SatisfiesP2c : Network → (proposer : ℕ) → SlotName → Option Vote → BagId → Type 0
SatisfiesP2c w proposer slot None bag = OnRecord w proposer slot (entry.Deposit bag)
SatisfiesP2c w proposer slot (Some prior) bag = prior.bag ≡ bag

-- one of these promises names the vote
pub record IsNamed (promises : List PromiseFrom) (vote : Vote) : Type 0 where
  pub promise : PromiseFrom
  pub among : Has promise promises
  pub names : promise.prior ≡ Some vote

-- one of them names it, and none names a higher one
pub record IsHighestNamed (promises : List PromiseFrom) (highest : Vote) : Type 0 where
  pub named : IsNamed promises highest
  pub none_higher : (vote : Vote) → IsNamed promises vote → ¬ Below highest.ballot vote.ballot

-- the highest vote that they name, or none where they name none
abbrev pub IsHighestPrior : List PromiseFrom → Option Vote → Type 0
IsHighestPrior promises None = (vote : Vote) → ¬ IsNamed promises vote
IsHighestPrior promises (Some highest) = IsHighestNamed promises highest

-- P2c: members that are a quorum have promised the ballot, and the bag is the one that follows from
-- the highest vote that their promises name
pub record IsBacked (q : QuorumSystem) (w : Network) (slot : SlotName) (vote : Vote) : Type 0 where
  pub promises : List PromiseFrom
  pub quorum : IsQuorum q (promisers promises)
  pub members : (p : PromiseFrom) → Has p promises → Has p.site q.members
  pub sent : (p : PromiseFrom) → Has p promises
      → WasSent w slot (Promise p.site vote.ballot p.prior)
  pub prior : Option Vote
  pub highest : IsHighestPrior promises prior
  pub follows : SatisfiesP2c w vote.ballot.site slot prior vote.bag

-- ---- reports

-- what a notice reports: a bag that a site has learned, or that it replies as known
abbrev pub notice_report : Notice → Option Report
notice_report (Learned site slot bag) = Some (record { slot = slot; bag = bag })
notice_report (Replied site slot (replies.Known bag)) = Some (record { slot = slot; bag = bag })
notice_report _ = None

-- the notices of these events, in order
unfoldable pub notices_of : QuorumSystem → Network → List Event → List Notice
notices_of q w [] = []
notices_of q w (e ∷ events) =
    option_to_list (happens q w e).notice ++ notices_of q (happens q w e).network events

-- ---- the laws, of a network

-- one bag a ballot: two proposals of one ballot are for one bag
abbrev pub OneBagABallot : Network → Type 0
OneBagABallot w =
    (slot : SlotName) (u v : Vote) → WasSent w slot (Accept u) → WasSent w slot (Accept v)
    → u.ballot ≡ v.ballot → u.bag ≡ v.bag

-- each vote was asked for
abbrev pub VotesWereAskedFor : Network → Type 0
VotesWereAskedFor w =
    (n : ℕ) (slot : SlotName) (vote : Vote) → OnRecord w n slot (entry.Vote vote)
    → WasSent w slot (Accept vote)

-- a site that says that it voted has the vote on record
abbrev pub VotesAreOnRecord : Network → Type 0
VotesAreOnRecord w =
    (n : ℕ) (slot : SlotName) (vote : Vote) → WasSent w slot (Accepted n vote)
    → OnRecord w n slot (entry.Vote vote)

-- a promise names its site's highest vote below its ballot. Since this is so after any events, it
-- stays so, whatever the site votes for later.
abbrev pub PromisesNameHighestVotes : Network → Type 0
PromisesNameHighestVotes w =
    (n : ℕ) (slot : SlotName) (b : BallotNumber) (prior : Option Vote)
    → WasSent w slot (Promise n b prior) → IsPrior w n slot b prior

-- each proposal is backed by the promises of a quorum
abbrev pub ProposalsAreBacked : QuorumSystem → Network → Type 0
ProposalsAreBacked q w =
    (slot : SlotName) (vote : Vote) → WasSent w slot (Accept vote) → IsBacked q w slot vote

-- what is known, or is said to be, was chosen
abbrev pub KnownWasChosen : QuorumSystem → Network → Type 0
KnownWasChosen q w =
    (n : ℕ) (slot : SlotName) (bag : BagId)
    → OnRecord w n slot (entry.Known bag) ⊎ WasSent w slot (Known n bag)
    → IsChosen q w slot bag

-- P2b: a bag that is chosen in a ballot is the bag of every proposal of a greater one
abbrev pub ChosenStays : QuorumSystem → Network → Type 0
ChosenStays q w =
    (slot : SlotName) (chosen later : Vote) → IsChosenBy q w slot chosen
    → WasSent w slot (Accept later) → Below chosen.ballot later.ballot
    → later.bag ≡ chosen.bag

-- at most one bag is chosen for a slot
abbrev pub OneBagASlot : QuorumSystem → Network → Type 0
OneBagASlot q w =
    (slot : SlotName) (u v : BagId) → IsChosen q w slot u → IsChosen q w slot v → u ≡ v

-- ---- and of one more event

-- what an event reports was chosen before it
abbrev pub ReportWasChosen : QuorumSystem → Network → Event → Type 0
ReportWasChosen q w e =
    (notice : Notice) (r : Report) → (happens q w e).notice ≡ Some notice
    → notice_report notice ≡ Some r → IsChosen q w r.slot r.bag

-- the site at which an event happens; for an arrival it is the datagram's addressee
abbrev pub site_of : Network → Event → Option ℕ
site_of w (Deposit site slot checked fate) = Some site
site_of w (Propose site slot fate) = Some site
site_of w (Recover site slot fate) = Some site
site_of w (Ask site member slot fate) = Some site
site_of w (Query site slot) = Some site
site_of w (Deliver number fate) = option_map (λ d. d.to) (datagram_at number w.sent)
site_of w (Raw site) = Some site
site_of w (Stop site) = Some site
site_of w (Start site) = Some site

-- what a site sends names it as its sender
abbrev pub SendersAreNamed : QuorumSystem → Network → Event → Type 0
SendersAreNamed q w e =
    (d : Send) → Has d (happens q w e).sends → body_from d.message.body ≡ site_of w e

-- ---- and of a run

-- no two reports of these notices name different bags for one slot
abbrev pub ReportsAgree : List Notice → Type 0
ReportsAgree notices =
    (m n : Notice) (slot : SlotName) (u v : BagId) → Has m notices → Has n notices
    → notice_report m ≡ Some (record { slot = slot; bag = u })
    → notice_report n ≡ Some (record { slot = slot; bag = v })
    → u ≡ v
