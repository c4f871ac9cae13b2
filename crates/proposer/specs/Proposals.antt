-- What a proposer does: its next ballot, and the bag that it proposes once a quorum has promised
-- (Lamport, Paxos Made Simple, section 2.2). Two things are this project's own: ballots are a round
-- and a site, and refusals raise the next round.
use Rattle.std.specs.Prelude.{ℕ, ◌+◌, max, nat_lt, Bool, not, ◌&&◌, List, [], ◌∷◌, ◌++◌, drop}
use Rattle.std.specs.Prelude.{Option, Some, None, if◌then◌else◌}
use Rattle.fed_types.specs.declared.bag_id.BagId.{BagId}
use Rattle.fed_types.specs.declared.vote.Vote.{Vote}
use Rattle.fed_types.specs.Ballots.{BallotNumber, same_ballot}
use Rattle.fed_types.specs.Limits.{greatest_round}
use Rattle.fed_types.specs.Quorums.{QuorumSystem}
use Rattle.fed_types.specs.Slots.{SlotName}
use Rattle.records.specs.declared.record.Record.{Record}
use Rattle.records.specs.SlotStates.{highest, used_of}
use Rattle.dgram.specs.declared.message.Message.{Message}
use Rattle.dgram.specs.Heard.{bodies_of, floor_of, PromiseFrom, promises_for, promisers, priors}

-- the greatest round that the site has used, or that a refusal has named
abbrev pub last_round : SlotName → List Record → List Message → ℕ
last_round slot records heard = max (used_of slot records) (floor_of (bodies_of slot heard))

-- the ballot of the round after this one, while rounds are left
abbrev pub ballot_after : ℕ → ℕ → Option BallotNumber
ballot_after site last =
    if nat_lt last greatest_round then Some (record { round = 1 + last; site = site }) else None

-- Phase 1 (a), 'a proposer selects a proposal number n': a new one, above each that it has used.
unfoldable pub next_ballot : ℕ → SlotName → List Record → List Message → Option BallotNumber
next_ballot site slot records heard = ballot_after site (last_round slot records heard)

-- the ballot that the site has begun last, and how many messages it had heard before
pub record Current : Type 0 where
  pub ballot : BallotNumber
  pub heard_before : ℕ

-- The responses to its prepare request: the promises for the ballot, since it was begun.
unfoldable pub gathered : SlotName → Current → List Message → List PromiseFrom
gathered slot current heard =
    promises_for current.ballot (bodies_of slot (drop current.heard_before heard))

-- 'The highest-numbered proposal among the responses': among the votes that the promises name, the
-- one of the greatest ballot, of equal ones the first.
unfoldable pub highest_prior : List PromiseFrom → Option Vote
highest_prior promises = highest (λ v. v.ballot) (priors promises)

-- P2c, the value: that of the highest-numbered proposal, 'or is any value if the responses reported
-- no proposals': the given one. It is the site's own deposit, if it has one when the promise comes,
-- and stays the same, since the first one counts.
abbrev pub bag_of : Option Vote → Option BagId → Option BagId
bag_of None own = own
bag_of (Some prior) own = Some prior.bag

-- with one promise more they are of a quorum, and without it they aren't
abbrev pub completes : QuorumSystem → List PromiseFrom → PromiseFrom → Bool
completes q promises p =
    q.is_quorum (promisers (promises ++ p ∷ [])) && not (q.is_quorum (promisers promises))

-- Phase 2 (a), 'if the proposer receives a response to its prepare requests (numbered n) from a
-- majority of acceptors': then a bag is proposed, once.
unfoldable pub proposal :
    QuorumSystem → Option BagId → List PromiseFrom → PromiseFrom → Option BagId
proposal q own promises p =
    if completes q promises p then bag_of (highest_prior (promises ++ p ∷ [])) own else None

-- the bag to propose once this promise for a ballot is heard after the others: only a promise for
-- the current ballot counts
abbrev pub ready :
    QuorumSystem → Option BagId → SlotName → Option Current → List Message
    → BallotNumber → PromiseFrom → Option BagId
ready q own slot None heard ballot p = None
ready q own slot (Some current) heard ballot p =
    if same_ballot current.ballot ballot
    then proposal q own (gathered slot current heard) p
    else None
