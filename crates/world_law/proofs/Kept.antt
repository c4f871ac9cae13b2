-- What holds of every network of a run.
use Rattle.std.specs.Prelude.{ℕ, ◌≡◌, ◌≤◌, true, List, length, Option, Some}
use Rattle.fed_types.specs.declared.bag_id.BagId.{BagId}
use Rattle.fed_types.specs.declared.vote.Vote.{Vote}
use Rattle.fed_types.specs.Ballots.{BallotNumber}
use Rattle.fed_types.specs.Lists.{Has}
use Rattle.fed_types.specs.Quorums.{QuorumSystem, IsQuorum}
use Rattle.fed_types.specs.Slots.{SlotName}
use Rattle.records.specs.declared.entry.Entry.{Entry}
use Rattle.records.specs.declared.entry.Entry.TheVariants as entry
use Rattle.dgram.specs.declared.body.Body.{Body}
use Rattle.dgram.specs.declared.body.Body.TheVariants.{Promise, Accept, Accepted, Known}
use Rattle.dgram.specs.declared.message.Message.{Message}
use Rattle.dgram.specs.Encoding.{body_from}
use Rattle.dgram.specs.Heard.{promisers}
use Rattle.proposer.specs.Proposals.{Current, gathered}
use Rattle.proposer.specs.VolatileStates.{VolatileState}
use Rattle.site.specs.Arrivals.{is_member}
use Rattle.site.specs.Effects.{Send}
use Rattle.world_law.specs.Laws.{OnRecord, WasSent, IsChosen, IsPrior, IsBacked}
use Rattle.world_law.specs.Networks.{Network, volatile_in}

-- the vote for a bag in a ballot
abbrev pub vote_for : BallotNumber → BagId → Vote
vote_for ballot bag = record { ballot = ballot; bag = bag }

-- a promise that site n has made: it is on record, and names its vote rightly
pub record Promises (w : Network) (n : ℕ) (slot : SlotName) (b : BallotNumber) (prior : Option Vote)
    : Type 0 where
  pub kept : OnRecord w n slot (entry.Promise b)
  pub prior_is : IsPrior w n slot b prior

-- a proposal: its round is on record at the ballot's site, and it is backed
pub record Proposes (q : QuorumSystem) (w : Network) (slot : SlotName) (vote : Vote) : Type 0 where
  pub issued : OnRecord w vote.ballot.site slot (entry.Round vote.ballot.round)
  pub backed : IsBacked q w slot vote

-- what a message that was sent says of the network
abbrev pub Says : QuorumSystem → Network → SlotName → Body → Type 0
Says q w slot (Promise n b prior) = Promises w n slot b prior
Says q w slot (Accept vote) = Proposes q w slot vote
Says q w slot (Accepted n vote) = OnRecord w n slot (entry.Vote vote)
Says q w slot (Known n bag) = IsChosen q w slot bag
Says q w slot _ = Unit {0}

-- what an entry on record says of the network
abbrev pub Means : QuorumSystem → Network → SlotName → Entry → Type 0
Means q w slot (entry.Vote vote) = WasSent w slot (Accept vote)
Means q w slot (entry.Known bag) = IsChosen q w slot bag
Means q w slot (entry.Deposit bag) = Unit {0}
Means q w slot (entry.Round round) = Unit {0}
Means q w slot (entry.Promise ballot) = Unit {0}

-- a ballot that is current at site n: its own, with its round on record; once a bag was proposed
-- in it, the promises of a quorum are gathered
pub record IsCurrent
    (q : QuorumSystem) (w : Network) (n : ℕ) (slot : SlotName) (heard : List Message) (c : Current)
    : Type 0 where
  pub own : c.ballot.site ≡ n
  pub issued : OnRecord w n slot (entry.Round c.ballot.round)
  pub within : c.heard_before ≤ length heard
  pub spent : (bag : BagId) → WasSent w slot (Accept (vote_for c.ballot bag))
      → IsQuorum q (promisers (gathered slot c heard))

-- what is so of a site's volatile state: what it has heard was sent, by members, and its ballots
-- are current
pub record Remembers (q : QuorumSystem) (w : Network) (n : ℕ)
    (volatile : VolatileState) : Type 0 where
  pub heard : (m : Message) → Has m volatile.heard → WasSent w m.slot m.body
  pub members : (m : Message) → Has m volatile.heard → is_member q (body_from m.body) ≡ true
  pub current : (slot : SlotName) (c : Current) → volatile.current slot ≡ Some c
      → IsCurrent q w n slot volatile.heard c

pub record Kept (q : QuorumSystem) (w : Network) : Type 0 where
  pub volatiles : (n : ℕ) → Remembers q w n (volatile_in (w.sites n).mode)
  pub sent : (d : Send) → Has d w.sent → Says q w d.message.slot d.message.body
  pub records : (n : ℕ) (slot : SlotName) (e : Entry) → OnRecord w n slot e → Means q w slot e
  pub one : (slot : SlotName) (b : BallotNumber) (u v : BagId)
      → WasSent w slot (Accept (vote_for b u)) → WasSent w slot (Accept (vote_for b v)) → u ≡ v
