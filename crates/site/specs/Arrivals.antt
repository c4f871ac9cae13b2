-- What a site does with a message: as an acceptor, as a proposer and as a learner of its slot
-- (Lamport, Paxos Made Simple, sections 2.2 and 2.3). Ask and Known are this project's own.
use Rattle.std.specs.Prelude.{ℕ, Bool, false, List, [], ◌∷◌, Option, Some, None}
use Rattle.std.specs.Prelude.{if◌then◌else◌}
use Rattle.fed_types.specs.declared.bag_id.BagId.{BagId}
use Rattle.fed_types.specs.Ballots.{BallotNumber}
use Rattle.fed_types.specs.Lists.{is_in}
use Rattle.fed_types.specs.Quorums.{QuorumSystem}
use Rattle.fed_types.specs.Slots.{SlotName}
use Rattle.records.specs.declared.entry.Entry.TheVariants as entry
use Rattle.records.specs.declared.record.Record.{Record}
use Rattle.records.specs.SlotStates.{deposit_of, known_of}
use Rattle.dgram.specs.declared.body.Body.{Body}
use Rattle.dgram.specs.declared.body.Body.TheVariants.{Prepare, Promise, Accept, Accepted, Refused}
use Rattle.dgram.specs.declared.body.Body.TheVariants.{Ask, Known, Deposit, Query, Recover}
use Rattle.dgram.specs.declared.body.Body.TheVariants.{DepositReply, QueryReply}
use Rattle.dgram.specs.declared.message.Message.{Message}
use Rattle.dgram.specs.Encoding.{body_from}
use Rattle.acceptor.specs.declared.decision.Response.{Response}
use Rattle.acceptor.specs.declared.decision.Response.TheVariants as answer
use Rattle.acceptor.specs.declared.decision.Decision.{Decision}
use Rattle.acceptor.specs.Decisions.{prepare_decision, accept_decision}
use Rattle.proposer.specs.Proposals.{ready}
use Rattle.proposer.specs.VolatileStates.{VolatileState, hears}
use Rattle.learner.specs.LearnedBags.{learned_from, learned_of_known}
use Rattle.site.specs.declared.answer.Line.TheVariants as site_lines
use Rattle.site.specs.Effects.{Effect, commits_and_sends, commits_and_says, only_says, quiet}

-- an acceptor's answer as a message of its site
abbrev pub answer_body : ℕ → Response → Body
answer_body site (answer.Promised ballot vote) = Promise site ballot vote
answer_body site (answer.Accepted vote) = Accepted site vote
answer_body site (answer.Refused asked standing) = Refused site asked standing

-- a vote goes to all members, anything else to the site that asked
abbrev pub addressees : QuorumSystem → (asker : ℕ) → Response → List ℕ
addressees q asker (answer.Promised ballot vote) = asker ∷ []
addressees q asker (answer.Accepted vote) = q.members
addressees q asker (answer.Refused asked standing) = asker ∷ []

-- the acceptor's record, and then its answer
abbrev pub decided :
    QuorumSystem → (site : ℕ) → SlotName → (asker : ℕ) → Decision → VolatileState → Effect
decided q site slot asker d volatile =
    commits_and_sends slot d.entry (answer_body site d.answer) (addressees q asker d.answer)
    volatile

-- Phase 2 (a): a bag to propose is sent to all members.
abbrev pub proposing :
    QuorumSystem → SlotName → BallotNumber → Option BagId → VolatileState → Effect
proposing q slot ballot None volatile = quiet volatile
proposing q slot ballot (Some bag) volatile =
    commits_and_sends slot None (Accept (record { ballot = ballot; bag = bag })) q.members volatile

-- a bag that is learned is recorded, and reported
abbrev pub learning : SlotName → Option BagId → VolatileState → Effect
learning slot None volatile = quiet volatile
learning slot (Some bag) volatile =
    commits_and_says slot (Some (entry.Known bag)) (site_lines.Known slot bag) volatile

-- a site that asks is sent the known bag
abbrev pub telling : (site : ℕ) → SlotName → (asker : ℕ) → Option BagId → VolatileState → Effect
telling site slot asker None volatile = quiet volatile
telling site slot asker (Some bag) volatile =
    commits_and_sends slot None (Known site bag) (asker ∷ []) volatile

-- What a message of a member does; `old` is the volatile state before it came, and `now` has heard
-- it too. Requests of clients, and the replies to them, are dropped, and aren't heard.
unfoldable pub on_body :
    QuorumSystem → (site : ℕ) → List Record → (old now : VolatileState) → SlotName → Body → Effect
on_body q site records old now slot (Prepare ballot) =
    decided q site slot ballot.site (prepare_decision slot records ballot) now
on_body q site records old now slot (Accept vote) =
    decided q site slot vote.ballot.site (accept_decision slot records vote) now
on_body q site records old now slot (Promise from ballot prior) =
    proposing q slot ballot
    (ready q (deposit_of slot records) slot (old.current slot) old.heard ballot
    (record { site = from; prior = prior })) now
on_body q site records old now slot (Accepted from vote) =
    learning slot (learned_from q slot records old.heard from vote) now
on_body q site records old now slot (Known from bag) =
    learning slot (learned_of_known slot records bag) now
on_body q site records old now slot (Refused from asked standing) = quiet now
on_body q site records old now slot (Ask from) =
    telling site slot from (known_of slot records) now
on_body q site records old now slot (Deposit path) = only_says site_lines.Dropped old
on_body q site records old now slot Query = only_says site_lines.Dropped old
on_body q site records old now slot Recover = only_says site_lines.Dropped old
on_body q site records old now slot (DepositReply from answer) = only_says site_lines.Dropped old
on_body q site records old now slot (QueryReply from answer) = only_says site_lines.Dropped old

-- whether there is a site, and it is a member
abbrev pub is_member : QuorumSystem → Option ℕ → Bool
is_member q None = false
is_member q (Some site) = is_in q.members site

-- A message arrives, or (None) bytes that are no message of the federation: what doesn't come from
-- a member is dropped, and isn't heard.
unfoldable pub on_arrival :
    QuorumSystem → (site : ℕ) → List Record → VolatileState → Option Message → Effect
on_arrival q site records volatile None = only_says site_lines.Dropped volatile
on_arrival q site records volatile (Some m) =
    if is_member q (body_from m.body)
    then on_body q site records volatile (hears volatile m) m.slot m.body
    else only_says site_lines.Dropped volatile
