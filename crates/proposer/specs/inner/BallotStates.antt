-- What becomes of what was gathered for a ballot.
use Rattle.std.specs.Prelude.{ℕ, Bool, not, ◌&&◌, List, Option, Some, None, if◌then◌else◌}
use Rattle.fed_types.specs.declared.bag_id.BagId.{BagId}
use Rattle.fed_types.specs.declared.vote.Vote.{Vote}
use Rattle.fed_types.specs.Ballots.{BallotNumber, same_ballot}
use Rattle.fed_types.specs.Quorums.{QuorumSystem}
use Rattle.fed_types.specs.Voters.{with_voter}
use Rattle.records.specs.SlotStates.{higher, with_one}
use Rattle.proposer.specs.declared.ballot_state.Promise.{Promise}
use Rattle.proposer.specs.BallotStates.{BallotState}
use Rattle.proposer.specs.Proposals.{bag_of}

-- the vote of the greater ballot, of equal ones the first
abbrev pub higher_prior : Option Vote → Option Vote → Option Vote
higher_prior best prior = with_one (higher (λ v. v.ballot)) best prior

-- with one promise more
abbrev pub counted : BallotState → Promise → BallotState
counted state p = record {
  ballot = state.ballot;
  promised_by = with_voter state.promised_by p.site;
  best = higher_prior state.best p.prior;
  waiting = state.waiting;
}

-- another promise waits, or none does
abbrev pub with_waiting : BallotState → Option Promise → BallotState
with_waiting state p = record {
  ballot = state.ballot;
  promised_by = state.promised_by;
  best = state.best;
  waiting = p;
}

-- a quorum, and none before
abbrev pub becomes_quorum : QuorumSystem → (before voters : List ℕ) → Bool
becomes_quorum q before voters = q.is_quorum voters && not (q.is_quorum before)

-- whether this promise makes a quorum
abbrev pub completes_with : QuorumSystem → BallotState → Promise → Bool
completes_with q state p =
    becomes_quorum q state.promised_by (with_voter state.promised_by p.site)

-- the bag to propose once it is heard: none where it makes no quorum, nor where no vote is named
-- and the site has no own bag
abbrev pub bag_after : QuorumSystem → (own : Option BagId) → BallotState → Promise → Option BagId
bag_after q own state p =
    if completes_with q state p then bag_of (higher_prior state.best p.prior) own else None

-- a promise that makes a proposal of this bag ready waits; one that makes none ready counts
abbrev pub waits_or_counts : Option BagId → BallotState → Promise → BallotState
waits_or_counts None state p = counted state p
waits_or_counts (Some bag) state p = with_waiting state (Some p)

abbrev pub state_after : QuorumSystem → (own : Option BagId) → BallotState → Promise → BallotState
state_after q own state p = waits_or_counts (bag_after q own state p) state p

-- the promise that waits is counted
abbrev pub issued_with : BallotState → Option Promise → BallotState
issued_with state None = state
issued_with state (Some p) = with_waiting (counted state p) None

abbrev pub issued : BallotState → BallotState
issued state = issued_with state state.waiting

-- ---- a promise for a ballot, where there is a current one

-- the bag to propose, and what is gathered then
abbrev pub given_bag :
    QuorumSystem → (own : Option BagId) → BallotNumber → Promise → Option BallotState
    → Option BagId
given_bag q own ballot p None = None
given_bag q own ballot p (Some state) =
    if same_ballot state.ballot ballot then bag_after q own state p else None

abbrev pub after_promise :
    QuorumSystem → (own : Option BagId) → BallotNumber → Promise → Option BallotState
    → Option BallotState
after_promise q own ballot p None = None
after_promise q own ballot p (Some state) =
    Some (if same_ballot state.ballot ballot then state_after q own state p else state)
