-- What a site does when it is called: it takes a bag as its deposit, proposes its deposit, recovers
-- what may be chosen, asks a member, replies to a query.
use Rattle.std.specs.Prelude.{ℕ, Bool, true, false, ◌||◌, List, [], ◌∷◌}
use Rattle.std.specs.Prelude.{Option, Some, None, is_some, Result, Ok, Err, if◌then◌else◌}
use Rattle.fed_types.specs.declared.bag_id.BagId.{BagId}
use Rattle.fed_types.specs.Bags.{same_bag}
use Rattle.fed_types.specs.Ballots.{BallotNumber}
use Rattle.fed_types.specs.Quorums.{QuorumSystem}
use Rattle.fed_types.specs.Slots.{SlotName}
use Rattle.bag_check.specs.declared.fault.BagFault.{BagFault}
use Rattle.records.specs.declared.entry.Entry.{Entry}
use Rattle.records.specs.declared.entry.Entry.TheVariants as entry
use Rattle.records.specs.declared.record.Record.{Record}
use Rattle.records.specs.SlotStates.{deposit_of, known_of, vote_of}
use Rattle.dgram.specs.declared.body.Body.TheVariants.{Prepare, Ask}
use Rattle.dgram.specs.declared.message.Message.{Message}
use Rattle.proposer.specs.Proposals.{next_ballot}
use Rattle.proposer.specs.VolatileStates.{VolatileState, with_current}
use Rattle.site.specs.declared.answer.Line.TheVariants as site_lines
use Rattle.site.specs.declared.answer.Reply.{Reply}
use Rattle.site.specs.declared.answer.Reply.TheVariants as replies
use Rattle.site.specs.declared.fault.SiteFault.{SiteFault}
use Rattle.site.specs.declared.fault.SiteFault.TheVariants as faults
use Rattle.site.specs.Faults.{check_fault}
use Rattle.site.specs.Effects.{Effect, commits_and_sends, commits_and_says, refuses}
use Rattle.site.specs.Arrivals.{on_arrival}

-- ---- a deposit

-- the bag, if there is one and it is another than this
abbrev pub other_than : BagId → Option BagId → Option BagId
other_than bag None = None
other_than bag (Some other) = if same_bag other bag then None else Some other

-- why a valid bag is refused: the site's own deposit is another, else the known bag is another
abbrev pub deposit_fault : (other_own other_known : Option BagId) → Option SiteFault
deposit_fault (Some own) known = Some (faults.OtherDeposit own)
deposit_fault None (Some known) = Some (faults.OtherKnown known)
deposit_fault None None = None

-- the slot's first deposit is recorded, and no other
abbrev pub deposit_entry : (own : Option BagId) → BagId → Option Entry
deposit_entry None bag = Some (entry.Deposit bag)
deposit_entry (Some own) bag = None

-- a valid bag is registered unless it is refused
abbrev pub registering : SlotName → (own : Option BagId) → BagId → Option SiteFault → VolatileState
    → Effect
registering slot own bag (Some fault) volatile = refuses fault volatile
registering slot own bag None volatile =
    commits_and_says slot (deposit_entry own bag) (site_lines.Registered bag) volatile

-- a tree is deposited, for which the check gave this answer
unfoldable pub on_deposit : List Record → VolatileState → SlotName → Result BagId BagFault → Effect
on_deposit records volatile slot (Err fault) = refuses (check_fault fault) volatile
on_deposit records volatile slot (Ok bag) =
    registering slot (deposit_of slot records) bag
    (deposit_fault (other_than bag (deposit_of slot records))
    (other_than bag (known_of slot records)))
    volatile

-- ---- a proposal

-- Phase 1 (a): a ballot is begun. Its round is recorded, and all members are asked to promise it.
abbrev pub begins_ballot : QuorumSystem → SlotName → BallotNumber → VolatileState → Effect
begins_ballot q slot ballot volatile =
    commits_and_sends slot (Some (entry.Round ballot.round)) (Prepare ballot) q.members
    (with_current volatile slot ballot)

-- the next ballot is begun, unless none is left
abbrev pub begins_next : QuorumSystem → SlotName → Option BallotNumber → VolatileState → Effect
begins_next q slot None volatile = refuses faults.RoundsSpent volatile
begins_next q slot (Some ballot) volatile = begins_ballot q slot ballot volatile

-- a site proposes if no bag is known, it has a deposit, and a ballot is left; the first of these
-- that fails is why it refuses
abbrev pub begins_ballot_if :
    QuorumSystem → SlotName → (known own : Option BagId) → Option BallotNumber → VolatileState
    → Effect
begins_ballot_if q slot (Some known) own next volatile = refuses faults.AlreadyKnown volatile
begins_ballot_if q slot None None next volatile = refuses faults.NoDeposit volatile
begins_ballot_if q slot None (Some own) next volatile = begins_next q slot next volatile

unfoldable pub on_propose :
    QuorumSystem → (site : ℕ) → List Record → VolatileState → SlotName → Effect
on_propose q site records volatile slot =
    begins_ballot_if q slot (known_of slot records) (deposit_of slot records)
    (next_ballot site slot records volatile.heard) volatile

-- ---- a recovery

-- A site recovers if no bag is known, it has a vote or a deposit on record, and a ballot is left;
-- the first of these that fails is why it refuses. The rest of the ballot is as after a proposal: a
-- site without a deposit proposes only what promises name.
abbrev pub recovers_if :
    QuorumSystem → SlotName → (known : Option BagId) → (has : Bool) → Option BallotNumber
    → VolatileState → Effect
recovers_if q slot (Some known) has next volatile = refuses faults.AlreadyKnown volatile
recovers_if q slot None false next volatile = refuses faults.NothingToRecover volatile
recovers_if q slot None true next volatile = begins_next q slot next volatile

unfoldable pub on_recover :
    QuorumSystem → (site : ℕ) → List Record → VolatileState → SlotName → Effect
on_recover q site records volatile slot =
    recovers_if q slot (known_of slot records)
    (is_some (vote_of slot records) || is_some (deposit_of slot records))
    (next_ballot site slot records volatile.heard) volatile

-- ---- a question

-- a member is asked for the known bag; the caller says which, and that it is one
unfoldable pub on_ask : (site : ℕ) → VolatileState → SlotName → (member : ℕ) → Effect
on_ask site volatile slot member = commits_and_sends slot None (Ask site) (member ∷ []) volatile

-- the reply to a query: the known bag, else the own deposit
abbrev pub reply_by : (known own : Option BagId) → Reply BagId
reply_by (Some known) own = replies.Known known
reply_by None (Some own) = replies.Pending own
reply_by None None = replies.Nothing

unfoldable pub reply_of : SlotName → List Record → Reply BagId
reply_of slot records = reply_by (known_of slot records) (deposit_of slot records)

-- ---- all that can reach an open site but queries, and what it does with it
pub data Input : Type 0 where
  Deposits : SlotName → Result BagId BagFault → Input
  Proposes : SlotName → Input
  Recovers : SlotName → Input
  Asks : SlotName → (member : ℕ) → Input
  Arrives : Option Message → Input

abbrev pub effect_of : QuorumSystem → (site : ℕ) → List Record → VolatileState → Input → Effect
effect_of q site records volatile (Deposits slot checked) = on_deposit records volatile slot checked
effect_of q site records volatile (Proposes slot) = on_propose q site records volatile slot
effect_of q site records volatile (Recovers slot) = on_recover q site records volatile slot
effect_of q site records volatile (Asks slot member) = on_ask site volatile slot member
effect_of q site records volatile (Arrives message) = on_arrival q site records volatile message
