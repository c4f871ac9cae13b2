-- What becomes of a row.
use Rattle.std.specs.Prelude.{◌≡◌, ℕ, max, Bool, false, ◌==◌, Option, Some, None, option_map, Box}
use Rattle.std.specs.Prelude.{if◌then◌else◌}
use Rattle.std.specs.declared.alloc.Global.{Global}
use Rattle.fed_types.specs.declared.bag_id.BagId.{BagId}
use Rattle.fed_types.specs.Ballots.{BallotNumber}
use Rattle.fed_types.specs.Quorums.{QuorumSystem}
use Rattle.fed_types.specs.Slots.{SlotName, same_slot}
use Rattle.records.specs.declared.entry.Entry.{Entry}
use Rattle.records.specs.SlotStates.{if_some, round_in}
use Rattle.slot_table.specs.Rows as tables
use Rattle.proposer.specs.declared.ballot_state.Promise.{Promise}
use Rattle.proposer.specs.declared.ballot_state.Plan.{Plan}
use Rattle.proposer.specs.declared.row.Row.{Row}
use Rattle.proposer.specs.BallotStates.{BallotState}
use Rattle.proposer.specs.Rows.{begun_in, current_in, row_of}
use Rattle.proposer.specs.inner.BallotStates.{given_bag, after_promise, issued}

-- only this slot's row is another
abbrev pub OnlyAt : (old new : tables.Rows Row) → SlotName → Type 0
OnlyAt old new slot =
    (s : SlotName) → row_of new s ≡ (if same_slot slot s then row_of new slot else row_of old s)

-- a row hears a promise, where the site has this own bag, or none; `given` is the bag to propose
pub record HeardPromise
    (q : QuorumSystem) (own : Option BagId) (ballot : BallotNumber) (p : Promise) (old new : Row)
    (given : Option BagId)
    : Type 0 where
  pub used : new.used ≡ old.used
  pub floor : new.floor ≡ old.floor
  pub begun : new.begun ≡ old.begun
  pub current : current_in new ≡ after_promise q own ballot p (current_in old)
  pub bag : given ≡ given_bag q own ballot p (current_in old)

-- the promise that waits in a row is counted
pub record IssuesWaiting (old new : Row) : Type 0 where
  pub used : new.used ≡ old.used
  pub floor : new.floor ≡ old.floor
  pub begun : new.begun ≡ old.begun
  pub current : current_in new ≡ option_map issued (current_in old)

-- whether the ballot is of this round
abbrev pub is_of_round : ℕ → Option BallotState → Bool
is_of_round number None = false
is_of_round number (Some state) = state.ballot.round == number

-- the row with the round used
abbrev pub with_round : Row → Option ℕ → Row
with_round row None = row
with_round row (Some number) =
    if is_of_round number (begun_in row)
    then record {
      used = max row.used number;
      floor = row.floor;
      begun = None;
      current = begun_in row;
    }
    else record {
      used = max row.used number;
      floor = row.floor;
      begun = row.begun;
      current = row.current;
    }

-- the row after an entry, if there is one
abbrev pub noted_row : Row → Option Entry → Row
noted_row row entry = with_round row (if_some round_in entry)

-- in the rows only this slot's row hears it, and gives the bag
abbrev pub HeardAt :
    QuorumSystem → (own : Option BagId) → BallotNumber → Promise → (old new : tables.Rows Row)
    → SlotName → Option BagId → Type 0
HeardAt q own ballot p old new slot given =
    OnlyAt old new slot × HeardPromise q own ballot p (row_of old slot) (row_of new slot) given

-- only this slot's row issues what waits
abbrev pub IssuesAt : (old new : tables.Rows Row) → SlotName → Type 0
IssuesAt old new slot = OnlyAt old new slot × IssuesWaiting (row_of old slot) (row_of new slot)

-- a row with a greater floor
abbrev pub with_floor : Row → ℕ → Row
with_floor row round = record {
  used = row.used;
  floor = max row.floor round;
  begun = row.begun;
  current = row.current;
}

-- a row with a ballot that was begun
abbrev pub with_begun : Row → Box Plan Global → Row
with_begun row plan = record {
  used = row.used;
  floor = row.floor;
  begun = Some plan;
  current = row.current;
}

-- a ballot is begun in a row
pub record BeginsBallot (state : BallotState) (old new : Row) : Type 0 where
  pub used : new.used ≡ old.used
  pub floor : new.floor ≡ old.floor
  pub current : new.current ≡ old.current
  pub begun : begun_in new ≡ Some state

-- only this slot's row begins it
abbrev pub BeginsAt : BallotState → (old new : tables.Rows Row) → SlotName → Type 0
BeginsAt state old new slot =
    OnlyAt old new slot × BeginsBallot state (row_of old slot) (row_of new slot)
