-- What was gathered for a ballot.
use Rattle.std.specs.Prelude.{ℕ, List, [], Option, None}
use Rattle.fed_types.specs.declared.vote.Vote.{Vote}
use Rattle.fed_types.specs.Ballots.{BallotNumber}
use Rattle.proposer.specs.declared.ballot_state.Plan.{Plan}
use Rattle.proposer.specs.declared.ballot_state.Promise.{Promise}

-- the sites that promised it, and the highest of the votes that they named; and the promise that
-- made the proposal ready, until the proposal is issued
pub record BallotState : Type 0 where
  pub ballot : BallotNumber
  pub promised_by : List ℕ
  pub best : Option Vote
  pub waiting : Option Promise

-- a ballot that nobody has promised
abbrev pub fresh : BallotNumber → BallotState
fresh ballot = record { ballot = ballot; promised_by = []; best = None; waiting = None }

-- A plan is what the code keeps of a ballot apart from the sites that promised it. This is the
-- state of one that nobody has promised.
abbrev pub state_of : Plan → BallotState
state_of plan = record {
  ballot = plan.ballot;
  promised_by = [];
  best = plan.best;
  waiting = plan.waiting;
}
